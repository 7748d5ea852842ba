-- The bytes that were read so far.
use Rattle.std.proofs.Common.{◌≡◌, ◌<◌, ◌≤◌, ◌+◌, ◌-◌, ◌∙◌, ℕ, List, ◌++◌, ap, refl, length, length-append, take}
use Rattle.std.proofs.Common.{Option, Some, None, Ok, Err, true, nat_lt, sym, append_assoc, arith, rules}
use Rattle.std.proofs.lemmas.List.{append-nil}
use Rattle.std.specs.Prelude.{IfSome}
use Rattle.std.specs.Io.KnownBytes.{Consumes, IsAtEnd, Keeps, prepend_known}
use Rattle.byte_streams.specs.Streams.{TakesAtMost}
use Rattle.order_file.specs.File.{within_limit}
use Rattle.order_file.specs.declared.fault.FileFault.TheVariants.{TooLong}
use Rattle.std.proofs.lemmas.Grind.{common_steps}

-- one read after another
pub consumes-more : (a b c : Option (List ℕ)) (x y : List ℕ) → Consumes a b x → Consumes b c y → Consumes a c (x ++ y)
consumes-more None b c x y h k = tt
consumes-more (Some p) None c x y h k = absurd h
consumes-more (Some p) (Some q) None x y h k = k
consumes-more (Some p) (Some q) (Some r) x y h k = rw (h, k) (sym (append_assoc x y r))

-- a read that gave nothing was at the end, so this is all
pub read-all : (most : ℕ) (a b c : Option (List ℕ)) (x buffer : List ℕ) (n : ℕ) → Consumes a b x
    → Consumes b c (take n buffer) → n ≡ 0 → IsAtEnd c
    → length x ≤ most → IfSome a (λ left. within_limit most left ≡ Ok x)
unfolding within_limit
read-all most None b c x buffer n h k z end short = tt
read-all most (Some p) None c x buffer n h k z end short = absurd h
read-all most (Some p) (Some q) None x buffer n h k z end short = absurd k
read-all most (Some p) (Some q) (Some r) x buffer n h k z end short = grind (arith, common_steps, append-nil)

long_test : (most n m : ℕ) → most < n → n ≤ m → nat_lt most m ≡ true
long_test most n m h k = search rules

-- more was read than a file may have
pub read-too-much : (most : ℕ) (a b : Option (List ℕ)) (x : List ℕ) → Consumes a b x → most < length x
    → IfSome a (λ left. within_limit most left ≡ Err TooLong)
unfolding within_limit
read-too-much most None b x h long = tt
read-too-much most (Some p) None x h long = absurd h
read-too-much most (Some p) (Some q) x h long = grind (arith, common_steps, long_test)

-- ---- after bytes that were read before

pub consumes-behind : (start all more : List ℕ) (a b : Option (List ℕ)) → all ≡ start ++ more → Consumes a b more
    → Consumes (prepend_known start a) b all
consumes-behind start all more None b is h = tt
consumes-behind start all more (Some p) None is h = absurd h
consumes-behind start all more (Some p) (Some q) is h =
    ap (λ (xs : List ℕ). start ++ xs) h ∙ sym (append_assoc start more q) ∙ ap (λ (xs : List ℕ). xs ++ q) (sym is)

-- more bytes are
pub more-consumes-behind : (start all now x : List ℕ) (a b c : Option (List ℕ))
    → (more : List ℕ) × (all ≡ start ++ more) × Consumes a b more → Consumes b c x → now ≡ all ++ x
    → (more : List ℕ) × (now ≡ start ++ more) × Consumes a c more
more-consumes-behind start all now x a b c (more, is, h) k grown =
    (more ++ x, grown ∙ ap (λ (xs : List ℕ). xs ++ x) is ∙ append_assoc start more x, consumes-more a b c more x h k)

-- at most the rest of `most` were taken
pub taken-consumes-behind : (start all : List ℕ) (a b : Option (List ℕ)) (most : ℕ)
    → (more : List ℕ) × (all ≡ start ++ more) × Consumes a b more → length all ≤ most
    → TakesAtMost (most - length start) a b
taken-consumes-behind start all a b most (more, is, h) few =
    (more, h, omega (arith, few, ap length is, length-append start more))

-- a read that failed took none
pub kept-consumes-behind : (start all : List ℕ) (a b c : Option (List ℕ)) (most : ℕ)
    → (more : List ℕ) × (all ≡ start ++ more) × Consumes a b more → Keeps b c → length all ≤ most
    → TakesAtMost (most - length start) a c
kept-consumes-behind start all None b c most (more, is, h) k few =
    (more, tt, omega (arith, few, ap length is, length-append start more))
kept-consumes-behind start all (Some p) None c most (more, is, h) k few = absurd h
kept-consumes-behind start all (Some p) (Some q) None most (more, is, h) k few = absurd k
kept-consumes-behind start all (Some p) (Some q) (Some r) most (more, is, h) k few =
    (more, rw (← k) at h, omega (arith, few, ap length is, length-append start more))

-- bytes that were read after them
pub read-consumes-behind : (start all x : List ℕ) (a b c : Option (List ℕ)) (most : ℕ)
    → (more : List ℕ) × (all ≡ start ++ more) × Consumes a b more → Consumes b c x
    → length all + length x ≤ most → TakesAtMost (most - length start) a c
read-consumes-behind start all x a b c most was k few =
    taken-consumes-behind start (all ++ x) a c most (more-consumes-behind start all (all ++ x) x a b c was k refl)
    (omega (arith, few, length-append all x))
