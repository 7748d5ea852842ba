pub mod Lists
pub mod NumberTextLaws
pub mod PrinterLaws
pub mod PageLaws
pub mod CsvRecordLaws
pub mod ReplyListLaws
