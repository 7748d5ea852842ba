-- A session from the opening of its file on.
use Rattle.std.proofs.Common.{◌≡◌, ℕ, List, [], ◌∷◌, ◌++◌, Option, refl, sym, ap, ◌∙◌}
use Rattle.auction_terms.specs.Auxiliary.RunningAuction.{RunningAuction}
use Rattle.journal.specs.JournalText.{journal_text}
use Rattle.journal.specs.declared.day.DayHeader.{DayHeader}
use Rattle.journal_file.specs.Committed.{committed}
use Rattle.journal_file.specs.declared.device.Device.{Ghosts}
use Rattle.journal_file.specs.declared.journal.CommittedLines.{CommittedLines}
use Rattle.journal_file.proofs.Chain.{chain}
use Rattle.journal_file.proofs.Lines.{committed-twice}
use Rattle.live_session.specs.Begun.{AddsLines, HasBegun, opening_lines}
use Rattle.live_session.specs.JournaledPromises.{LeavesFromOpening}
use Rattle.live_session.specs.declared.begin_fault.CutOff.{CutOff}

module _ {D : Type 0} (d : Ghosts D) where
  adds : (day : DayHeader) (opened : D) (begun : CommittedLines D) (auction : RunningAuction) (cut : Option CutOff)
      → HasBegun d day opened begun auction cut → (lines : List ℕ)
      → committed (d.seen opened) ≡ lines
      → AddsLines d opened begun.device (opening_lines day lines)
  adds day opened begun auction cut h [] is = (h.new_day is).3
  adds day opened begun auction cut h (b ∷ bs) is = (h.gone_on (λ e. absurd (cc (sym is ∙ e)))).3

  whole : (day : DayHeader) (opened new : D) (lines : List ℕ) → committed (d.seen opened) ≡ lines
      → AddsLines d opened new (opening_lines day lines)
      → committed (opening_lines day lines) ≡ opening_lines day lines
  whole day opened new [] is h =
      let all : committed (d.seen new) ≡ journal_text day [] =
      h.all ∙ ap (λ (l : List ℕ). l ++ journal_text day []) is in
      ap committed (sym all) ∙ committed-twice (d.seen new) ∙ all
  whole day opened new (b ∷ bs) is h = refl

  pub from-opening : LeavesFromOpening d
  from-opening day opened begun ended auction cut terms first last result h ran stored =
      let lines = committed (d.seen opened) in
      let added = adds day opened begun auction cut h lines refl in
      chain d.moment d.left_since opened begun.device ended.device lines (opening_lines day lines)
      (ran.entries ++ ran.lost)
      (committed (d.seen begun.device)) added.all (whole day opened begun.device lines refl added) (added.leaves stored)
      ran.leaves
