-- Answers of `CommittedLines::put_all` (src/journal.rt): what the prover left open; rt looks here.
use Rattle.std.proofs.Common.{◌≡◌, ◌<◌, ◌++◌, ◌==◌, Bool, false, List, ℕ, zero, suc, [], length, take, drop, refl}
use Rattle.std.proofs.Common.{sym, ◌∙◌, ap, subst, arith}
use Rattle.std.proofs.Common.{append_assoc, length-append, take-append-drop}
use Rattle.std.proofs.lemmas.List.{append-nil, length-take, length-drop}
use Rattle.journal_file.specs.Committed.{committed, HasShortLines, IsBegun}
use Rattle.journal_file.proofs.Chain.{chain}
use Rattle.journal_file.proofs.Lines.{committed-append}
use Rattle.journal_file.proofs.Moments.{started}
use Rattle.journal_file.proofs.Pieces.{piece-of, piece-leaves}
use Rattle.journal_file.proofs.TornEnds.{torn-end-room}
use Rattle.journal_file.proofs.journal.CommittedLines.put_all.Goals as goal

not-none : (n : ℕ) (b : Bool) → b ≡ (n == 0) → b ≡ false → 0 < n
not-none zero b is none = absurd (cc (is, none))
not-none (suc n) b is none = omega arith

pub pieces-init : goal.pieces-init
pieces-init g c =
    let device = c.args.self.now.device in
    let file = g.D.Device.seen device in
    let s = c.requires.settled in
    let P = IsBegun (committed file) [] in
    let torn = torn-end-room file (committed file) c.args.self.now.room s.file refl in (
      record {
        done = [];
        split = refl;
        whole = refl;
        short = c.requires.short;
        settled = s;
        has = sym (append-nil (committed file));
        room = c.requires.room;
        leaves =
            started g.D.Device.moment g.D.Device.left_since device P
            (λ f left. subst P (sym (s.durable f (g.met.D.Device.only_now device f left)))
            (0, (sym (append-nil (committed file)), torn)));
        risen = omega arith;
      },
      refl,
    )

pub split_at-requires : goal.split_at-requires
split_at-requires g c =
    let piece = piece-of c.pieces.rest.now c.piece_len.result c.pieces.invariant.0.short c.piece_len.ensures in
    piece.fits

pub put-requires-clause-whole : goal.put-requires-clause-whole
put-requires-clause-whole g c =
    let piece = piece-of c.pieces.rest.now c.piece_len.result c.pieces.invariant.0.short c.piece_len.ensures in
    ap committed c.split_at.ensures.front ∙ piece.whole ∙ sym c.split_at.ensures.front

pub put-requires-clause-few : goal.put-requires-clause-few
put-requires-clause-few g c =
    let piece = piece-of c.pieces.rest.now c.piece_len.result c.pieces.invariant.0.short c.piece_len.ensures in
    omega (arith, piece.few, ap length c.split_at.ensures.front, length-take c.piece_len.result c.pieces.rest.now)

pub returns-in_err-put-clause-any_moment : goal.returns-in_err-put-clause-any_moment
returns-in_err-put-clause-any_moment g c =
    let i = c.pieces.invariant.0 in
    let piece = piece-of c.pieces.rest.now c.piece_len.result i.short c.piece_len.ensures in
    let front = c.split_at.result.0.now in
    let more = drop c.piece_len.result c.pieces.rest.now in
    let split : c.pieces.rest.now ≡ front ++ more =
    sym (take-append-drop c.piece_len.result c.pieces.rest.now)
    ∙ ap (λ (l : List ℕ). l ++ more) (sym c.split_at.ensures.front) in
    piece-leaves g.D.Device.seen g.D.Device.moment g.D.Device.left_since c.args.self.now.device c.pieces.self.device
    c.put.new.self.device i.done front more c.args.lines.now i.has i.whole
    (i.split ∙ ap (λ (l : List ℕ). i.done ++ l) split) i.leaves c.put.ensures.any_moment

pub pieces-smaller : goal.pieces-smaller
pieces-smaller g c =
    let piece = piece-of c.pieces.rest.now c.piece_len.result c.pieces.invariant.0.short c.piece_len.ensures in
    let some : 0 < length c.pieces.rest.now =
    not-none (length c.pieces.rest.now) c.is_empty.result c.is_empty.ensures c.pieces-test.true in
    omega (
      arith,
      piece.fits,
      piece.some some,
      ap length c.split_at.ensures.back,
      length-drop c.piece_len.result c.pieces.rest.now,
    )

pub pieces-preserved : goal.pieces-preserved
pieces-preserved g c =
    let i = c.pieces.invariant.0 in
    let rest = c.pieces.rest.now in
    let n = c.piece_len.result in
    let piece = piece-of rest n i.short c.piece_len.ensures in
    let front = c.split_at.result.0.now in
    let more = c.split_at.result.1.now in
    let front_is : front ≡ take n rest = c.split_at.ensures.front in
    let more_is : more ≡ drop n rest = c.split_at.ensures.back in
    let split : rest ≡ front ++ more =
    sym (take-append-drop n rest) ∙ ap (λ (l : List ℕ). l ++ drop n rest) (sym front_is)
    ∙ ap (λ (l : List ℕ). front ++ l) (sym more_is) in
    let whole : committed front ≡ front = ap committed front_is ∙ piece.whole ∙ sym front_is in
    let put = c.in_ok-put.ensures in (
      record {
        done = i.done ++ front;
        split =
            i.split ∙ ap (λ (l : List ℕ). i.done ++ l) split ∙ sym (append_assoc i.done front more);
        whole = committed-append i.done front i.whole ∙ ap (λ (l : List ℕ). i.done ++ l) whole;
        short = subst HasShortLines (sym more_is) piece.more;
        settled = put.settled;
        has =
            put.committed ∙ ap (λ (l : List ℕ). l ++ front) i.has
            ∙ append_assoc (committed (g.D.Device.seen c.args.self.now.device)) i.done front;
        room = omega (arith, i.room, put.room, ap length split, length-append front more);
        leaves =
            chain g.D.Device.moment g.D.Device.left_since c.args.self.now.device c.pieces.self.device
            c.put.new.self.device (committed (g.D.Device.seen c.args.self.now.device)) i.done front
            (committed (g.D.Device.seen c.pieces.self.device)) i.has i.whole i.leaves c.put.ensures.any_moment;
        risen = omega (arith, i.risen, c.put.ensures.cause.later);
      },
      put.aside ∙ c.pieces.invariant.1,
    )
