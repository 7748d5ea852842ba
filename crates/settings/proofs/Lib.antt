mod Built
mod CommandLineExamples
mod Numbers
mod Parsed
mod Places
mod Readings
mod TaskLaws
