-- The states of the machine that finds the ends of records, which are those of the reader of records.
use Rattle.csv.specs.declared.parser.State.{State}
use Rattle.csv.specs.declared.parser.State.TheVariants as st
use Rattle.order_file.specs.declared.spot.Spot.{Spot}
use Rattle.order_file.specs.declared.spot.Spot.TheVariants as spot

abbrev pub state_of : Spot → State
state_of spot.RecordStart = st.StartRecord
state_of spot.AfterReturn = st.AfterCr
state_of spot.FieldStart = st.StartField
state_of spot.InField = st.InField
state_of spot.InQuotes = st.InQuoted
state_of spot.AfterQuote = st.AfterQuote
