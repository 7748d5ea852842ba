-- Answers of `Page::put_digits` (src/page.rt): what the prover left open; rt looks here.
use Rattle.std.proofs.Common.{◌≡◌, ◌≤◌, ◌+◌, ◌-◌, ◌++◌, ◌∙◌, ℕ, List, take, drop, ap, arith, sym, length-take-le}
use Rattle.std.proofs.lemmas.Slice.{take-put_mid}
use Rattle.std.proofs.lemmas.List.{take-take, drop-take}
use Rattle.printed_lines.proofs.PageLaws.{put-beginning}
use Rattle.printed_lines.proofs.page.Page.put_digits.Goals as goal

-- the first of the bytes from a place on are those up to the end of the digits
digits-from : (digits : List ℕ) (begin : ℕ) → begin ≤ 20
    → take (20 - begin) (take (begin + 20 - begin) (drop begin digits)) ≡ drop begin (take 20 digits)
digits-from digits begin within =
    let all : begin + (20 - begin) ≡ 20 = omega (arith, within) in
    take-take (20 - begin) (begin + 20 - begin) (drop begin digits) (omega arith)
    ∙ sym (drop-take begin (20 - begin) digits) ∙ ap (λ n. drop begin (take n digits)) all

pub returns-clause-text : goal.returns-clause-text
returns-clause-text c =
    let inside = c.self.inside in
    let fits = c.self.invariant in
    let all = take-put_mid inside.len (inside.len + 20 - inside.len) inside.bytes c.copy_from_slice.new.self
    (inside.len + 20) (omega (arith, c.copy_from_slice.ensures.len)) (omega (arith, fits, c.self.told)) in
    let put = put-beginning _ _ _ inside.len (20 - c.args.begin) _ all
    (length-take-le inside.len inside.bytes (omega (arith, fits, c.self.told))) (omega (arith, c.requires.begin)) in
    rw (c.copy_from_slice.ensures.after, ← c.self.view_is)
    (rw c.copy_from_slice.ensures.after at put
    ∙ ap (λ text. take inside.len inside.bytes ++ text) (digits-from c.args.digits.now c.args.begin c.requires.begin))
