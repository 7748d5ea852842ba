-- Texts that are printed piece by piece.
use Rattle.std.proofs.Common.{◌≡◌, ℕ, List, [], ◌++◌, Option, Result, Ok, Err, OnErr, refl, sym, subst, ◌∙◌}
use Rattle.std.proofs.Common.{append_assoc}
use Rattle.std.proofs.lemmas.Bool.{false≢true}
use Rattle.std.proofs.lemmas.List.{append-nil}
use Rattle.std.specs.Borrow.{MutBor}
use Rattle.std.specs.Result.{IsErr}
use Rattle.byte_streams.specs.Streams.{AppendsBeginning}
use Rattle.byte_streams.specs.Writing.{WritesAll}
use Rattle.byte_streams.specs.declared.sink.Sink.{Ghosts}
use Rattle.byte_streams.specs.declared.writing.WriteFailed.{WriteFailed}
use Rattle.byte_streams.proofs.StreamLaws.{appends-more, appends-none, begun-before}
use Rattle.printed_lines.specs.Printing.{IsFresh, KeepsOnPage, Prints}
use Rattle.printed_lines.specs.declared.printer.Printer.{Printer}

-- a piece was written or put on the page after others
keeps-more : (a b c : Option (List ℕ)) (before middle after : List ℕ) (x y : List ℕ)
    → KeepsOnPage a b middle (before ++ x) → KeepsOnPage b c after (middle ++ y)
    → KeepsOnPage a c after (before ++ (x ++ y))
keeps-more a b c before middle after x y (done, is, wrote) (more, more_is, more_wrote) = (
  done ++ more,
  rw (append_assoc done more after, more_is, ← append_assoc done middle y, is, append_assoc before x y) refl,
  appends-more a b c done more wrote more_wrote,
)

-- a piece was begun after others
begun-after : (a b c : Option (List ℕ)) (before middle : List ℕ) (x y : List ℕ)
    → KeepsOnPage a b middle (before ++ x) → AppendsBeginning b c (middle ++ y)
    → AppendsBeginning a c (before ++ (x ++ y))
begun-after a b c before middle x y kept (more, rest, more_is, more_wrote) =
    let (done, is, wrote) = keeps-more a b c before middle rest x y kept (more, more_is, more_wrote) in
    (done, rest, is, wrote)

-- nothing was printed so far
pub prints_none : {S : Type 0} (s : Ghosts S) (a : Printer S) → Prints s a a (Ok tt) []
prints_none s a = record {
  same_sink = refl;
  text = ([], sym (append-nil a.page), appends-none (s.written a.sink.now));
  failed = refl;
}

-- a text was printed after another
pub prints_more : {S : Type 0} {s : Ghosts S} {a b c : Printer S} {r : Result (Unit {0}) WriteFailed} {x y : List ℕ}
    → Prints s a b (Ok tt) x → Prints s b c r y → Prints s a c r (x ++ y)
prints_more {S = S} {s = s} {a = a} {b = b} {c = c} {r = r} {x = x} {y = y} h k = by_written r k
  where
    by_written : (r : Result (Unit {0}) WriteFailed) → Prints s b c r y → Prints s a c r (x ++ y)
    by_written (Ok u) k = record {
      same_sink = k.same_sink ∙ h.same_sink;
      text = keeps-more _ _ _ a.page b.page c.page x y h.text k.text;
      failed = k.failed ∙ h.failed;
    }
    by_written (Err e) k = record {
      same_sink = k.same_sink ∙ h.same_sink;
      text = begun-after _ _ _ a.page b.page x y h.text k.text;
      failed = rw h.failed at k.failed;
    }

-- a text was begun that others were to follow
pub prints_begun : {S : Type 0} {s : Ghosts S} {a b : Printer S} {e : WriteFailed} {r : Result (Unit {0}) WriteFailed}
    {x : List ℕ} (y : List ℕ)
    → IsErr r → Prints s a b (Err e) x → Prints s a b r (x ++ y)
prints_begun {S = S} {s = s} {a = a} {b = b} {r = r} {x = x} y err h = by_written r err
  where
    by_written : (r : Result (Unit {0}) WriteFailed) → IsErr r → Prints s a b r (x ++ y)
    by_written (Ok u) err = absurd (false≢true err)
    by_written (Err f) err = record {
      same_sink = h.same_sink;
      text = rw (← append_assoc a.page x y) (begun-before _ _ (a.page ++ x) y h.text);
      failed = h.failed;
    }

-- where nothing could be printed, any text that was to follow was begun
pub prints_any : {S : Type 0} (s : Ghosts S) (a b : Printer S) (r : Result (Unit {0}) WriteFailed) → Prints s a b r []
    → OnErr r ((x : List ℕ) → Prints s a b r x)
prints_any s a b (Ok u) h = tt
prints_any s a b (Err e) h = λ x. prints_begun x refl h

-- a text was begun after one that was printed, and others were to follow it
pub prints_among : {S : Type 0} {s : Ghosts S} {a b c : Printer S} {e : WriteFailed} {r : Result (Unit {0}) WriteFailed}
    {front piece all : List ℕ} (more : List ℕ)
    → IsErr r → front ++ (piece ++ more) ≡ all → Prints s a b (Ok tt) front → Prints s b c (Err e) piece
    → Prints s a c r all
prints_among {S = S} {s = s} {a = a} {c = c} {r = r} {front = front} {piece = piece} more err is h k =
    subst (Prints s a c r) is (prints_more h (prints_begun more err k))

-- a new printer printed a text and then wrote what was left on its page: the whole text went to the sink
pub writes_all : {S : Type 0} {s : Ghosts S} {sink : MutBor S} {a b c : Printer S} {last : S}
    {r : Result (Unit {0}) WriteFailed} {x : List ℕ}
    → IsFresh sink a → Prints s a b (Ok tt) x → Prints s b c r [] → c.page ≡ [] → last ≡ c.sink.now
    → WritesAll s sink.now last r x
writes_all {S = S} {s = s} {sink = sink} {a = a} {b = b} {c = c} {last = last} {r = r} {x = x} fresh h k empty is =
    by_written r (subst (Prints s a c r) (append-nil x) (prints_more h k))
  where
    by_written : (r : Result (Unit {0}) WriteFailed) → Prints s a c r x → WritesAll s sink.now last r x
    by_written (Ok u) p = record {
      text = rw (is, ← fresh.sink_is, ← (sym (append-nil p.text.0) ∙ (rw (empty, fresh.page_is) at p.text.1))) p.text.2;
      failed = rw (is, ← fresh.sink_is) p.failed;
    }
    by_written (Err e) p = record {
      text = rw (is, ← fresh.sink_is) (rw fresh.page_is at p.text);
      failed = rw (is, ← fresh.sink_is) p.failed;
    }

-- a new printer failed to print a text
pub writes_begun : {S : Type 0} {s : Ghosts S} {sink : MutBor S} {a b : Printer S} {last : S} {e : WriteFailed}
    {r : Result (Unit {0}) WriteFailed} {x : List ℕ}
    → IsErr r → IsFresh sink a → Prints s a b (Err e) x → last ≡ b.sink.now → WritesAll s sink.now last r x
writes_begun {S = S} {s = s} {sink = sink} {a = a} {last = last} {r = r} {x = x} err fresh h is = by_written r err
  where
    by_written : (r : Result (Unit {0}) WriteFailed) → IsErr r → WritesAll s sink.now last r x
    by_written (Ok u) err = absurd (false≢true err)
    by_written (Err f) err = record {
      text = rw (is, ← fresh.sink_is) (rw fresh.page_is at h.text);
      failed = rw (is, ← fresh.sink_is) h.failed;
    }

-- a text of any length was written after an empty page
written_whole : {S : Type 0} (s : Ghosts S) (a b : Printer S) (r : Result (Unit {0}) WriteFailed) (x : List ℕ)
    → a.page ≡ [] → b.page ≡ [] → b.sink.ghost_name ≡ a.sink.ghost_name → WritesAll s a.sink.now b.sink.now r x
    → Prints s a b r x
written_whole s a b (Ok u) x before after same h = record {
  same_sink = same;
  text = (x, rw (before, after) (append-nil x), h.text);
  failed = h.failed;
}
written_whole s a b (Err e) x before after same h = record {
  same_sink = same;
  text = rw before h.text;
  failed = h.failed;
}

-- it was, after what was on the page
pub prints_whole : {S : Type 0} {s : Ghosts S} {a b c : Printer S} {r : Result (Unit {0}) WriteFailed} {x : List ℕ}
    → Prints s a b (Ok tt) [] → b.page ≡ [] → c.page ≡ [] → c.sink.ghost_name ≡ b.sink.ghost_name
    → WritesAll s b.sink.now c.sink.now r x
    → Prints s a c r x
prints_whole {s = s} {b = b} {c = c} {r = r} {x = x} h before after same w =
    prints_more h (written_whole s b c r x before after same w)
