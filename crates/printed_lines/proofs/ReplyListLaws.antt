-- The replies that codes say, as the list grows.
use Rattle.std.proofs.Common.{◌≡◌, ◌<◌, ◌≤◌, ◌-◌, ◌++◌, ◌∷◌, [], ℕ, suc, List, length, get_or, true, false}
use Rattle.std.proofs.Common.{Bool, refl, sym, ap, ◌∙◌, arith}
use Rattle.std.specs.Prelude.{nat_eq}
use Rattle.std.proofs.lemmas.List.{get_or_append_left, get_or_default}
use Rattle.std.proofs.Math.Seq.{get_or-append_seam}
use Rattle.auction_terms.specs.declared.Refusal.{Refusal}
use Rattle.auction_terms.specs.declared.Refusal.TheVariants as refused
use Rattle.auction_terms.specs.declared.Reply.{Reply}
use Rattle.auction_terms.specs.declared.Reply.TheVariants as reply
use Rattle.auction_terms.specs.Refusals.{refusal_number}
use Rattle.std.proofs.lemmas.Bool.Decides.{nat_tests}
use Rattle.printed_lines.specs.ReplyList.{IsCoded, IsKept, brief_reply, entered_after, entered_by, next_id}
use Rattle.printed_lines.specs.ReplyList.{replies_of_codes}
use Rattle.printed_lines.specs.ReplyList.{reply_of_code, shown_after, shown_by}
use Rattle.printed_lines.specs.declared.reply_list.TheConstants.{ENTERED, OTHER, AGAIN}

-- a refusal's number is its code
pub refusal_code : (r : Refusal) → brief_reply (refusal_number r) ≡ reply.Refused r
unfolding brief_reply
refusal_code refused.BadQuantity = refl
refusal_code refused.BadLimit = refl
refusal_code refused.BadPeak = refl
refusal_code refused.BookFull = refl
refusal_code refused.UnknownOrder = refl
refusal_code refused.NotOperator = refl
refusal_code refused.DayOver = refl
refusal_code refused.NoSuchTrade = refl
refusal_code refused.PastAuction = refl

pub length-replies : (others : List Reply) (entered shown : ℕ) (codes : List ℕ)
    → length (replies_of_codes others entered shown codes) ≡ length codes
length-replies others entered shown [] = refl
length-replies others entered shown (code ∷ codes) =
    ap suc (length-replies others (entered_after entered code) (shown_after shown code) codes)

-- ---- one code more

pub replies-push : (others : List Reply) (entered shown : ℕ) (codes : List ℕ) (code : ℕ)
    → replies_of_codes others entered shown (codes ++ code ∷ [])
    ≡ replies_of_codes others entered shown codes
    ++ reply_of_code others (entered_by entered codes) (shown_by shown codes) code ∷ []
replies-push others entered shown [] code = refl
replies-push others entered shown (first ∷ codes) code =
    ap (λ rs. reply_of_code others entered shown first ∷ rs)
    (replies-push others (entered_after entered first) (shown_after shown first) codes code)

pub entered-push : (entered : ℕ) (codes : List ℕ) (code : ℕ)
    → entered_by entered (codes ++ code ∷ []) ≡ entered_after (entered_by entered codes) code
entered-push entered [] code = refl
entered-push entered (first ∷ codes) code = entered-push (entered_after entered first) codes code

pub shown-push : (shown : ℕ) (codes : List ℕ) (code : ℕ)
    → shown_by shown (codes ++ code ∷ []) ≡ shown_after (shown_by shown codes) code
shown-push shown [] code = refl
shown-push shown (first ∷ codes) code = shown-push (shown_after shown first) codes code

-- ---- others more

more-after : (shown code : ℕ) → shown ≤ shown_after shown code
more-after shown code = by_equal (nat_eq code OTHER) refl
  where
    by_equal : (b : Bool) → nat_eq code OTHER ≡ b → shown ≤ shown_after shown code
    by_equal true e = rw e (omega arith)
    by_equal false e = rw e (omega arith)

shown-more : (shown : ℕ) (codes : List ℕ) → shown ≤ shown_by shown codes
shown-more shown [] = omega arith
shown-more shown (code ∷ codes) = omega (arith, more-after shown code, shown-more (shown_after shown code) codes)

-- a code says the same once there are more others
reply-grown : (others more : List Reply) (entered shown code : ℕ) → shown_after shown code ≤ length others
    → reply_of_code (others ++ more) entered shown code ≡ reply_of_code others entered shown code
unfolding reply_of_code
reply-grown others more entered shown code h =
    by_equal (nat_eq code ENTERED) (nat_eq code OTHER) (nat_eq code AGAIN) refl refl refl
  where
    by_equal : (a b c : Bool) → nat_eq code ENTERED ≡ a → nat_eq code OTHER ≡ b → nat_eq code AGAIN ≡ c
        → reply_of_code (others ++ more) entered shown code ≡ reply_of_code others entered shown code
    by_equal true b c e f g = rw e refl
    by_equal false true c e f g =
        let within : shown < length others = omega (arith, rw f at h) in
        rw (e, f) (get_or_append_left others more reply.Deleted shown within)
    by_equal false false true e f g =
        let within : shown < length (reply.Deleted ∷ others) = omega (arith, rw f at h) in
        rw (e, f, g) (get_or_append_left (reply.Deleted ∷ others) more reply.Deleted shown within)
    by_equal false false false e f g = rw (e, f, g) refl

-- and so do all codes, which read no more of the others than there are
pub replies-grown : (others more : List Reply) (entered shown : ℕ) (codes : List ℕ)
    → shown_by shown codes ≤ length others
    → replies_of_codes (others ++ more) entered shown codes ≡ replies_of_codes others entered shown codes
replies-grown others more entered shown [] h = refl
replies-grown others more entered shown (code ∷ codes) h =
    let within : shown_after shown code ≤ length others = omega (arith, shown-more (shown_after shown code) codes) in
    rw (
      reply-grown others more entered shown code within,
      replies-grown others more (entered_after entered code) (shown_after shown code) codes h,
    ) refl

-- ---- what codes say

not-entered : (code : ℕ) → code < ENTERED → nat_eq code ENTERED ≡ false
not-entered code low = grind (arith, nat_tests)

not-other : (code : ℕ) → code < ENTERED → nat_eq code OTHER ≡ false
not-other code low = grind (arith, nat_tests)

not-again : (code : ℕ) → code < ENTERED → nat_eq code AGAIN ≡ false
not-again code low = grind (arith, nat_tests)

brief-says : (others : List Reply) (entered shown code : ℕ) → code < ENTERED
    → reply_of_code others entered shown code ≡ brief_reply code
unfolding reply_of_code
brief-says others entered shown code low = rw (not-entered code low, not-other code low, not-again code low) refl

pub brief-coded : (entered code : ℕ) (said : Reply) → code < ENTERED → brief_reply code ≡ said
    → IsCoded entered code said
brief-coded entered code said low is = record {
  says = λ others shown. brief-says others entered shown code low ∙ is;
  alone = λ shown. rw (not-other code low) refl;
}

pub entered-coded : (entered : ℕ) → IsCoded entered ENTERED (reply.Entered (next_id entered))
unfolding reply_of_code
entered-coded entered = record {
  says = λ others shown. refl;
  alone = λ shown. refl;
}

-- the next of the others is the one that was put after them
pub other-says : (others all : List Reply) (entered : ℕ) (said : Reply) → all ≡ others ++ said ∷ []
    → reply_of_code all entered (length others) OTHER ≡ said
unfolding reply_of_code
other-says others all entered said put = rw put (get_or-append_seam others said [] reply.Deleted)

-- the last one is said again
pub again-says : (others : List Reply) (entered : ℕ) (said : Reply)
    → (0 < length others) × (get_or others (length others - 1) said ≡ said)
    → reply_of_code others entered (length others) AGAIN ≡ said
unfolding reply_of_code
again-says [] entered said last = absurd (omega (arith, last.0))
again-says (first ∷ others) entered said last =
    let back : length (first ∷ others) - 1 ≡ length others = omega arith in
    get_or_default (first ∷ others) (length others) reply.Deleted said (omega arith)
    ∙ ap (λ n. get_or (first ∷ others) n said) (sym back) ∙ last.1

-- ---- a reply that is pushed: its code comes after the others, which may have grown

module _ (others all more : List Reply) (codes reserved after : List ℕ) (entered code : ℕ)
    (kept : IsKept codes entered others) (grown : all ≡ others ++ more) (same : reserved ≡ codes)
    (put : after ≡ reserved ++ code ∷ []) where
  put-behind : after ≡ codes ++ code ∷ []
  put-behind = put ∙ ap (λ l. l ++ code ∷ []) same

  pub kept-push : (next : ℕ) → next ≡ entered_after entered code → shown_after (length others) code ≡ length all
      → IsKept after next all
  kept-push next is shown = record {
    entered_is =
        ap (entered_by 0) put-behind ∙ entered-push 0 codes code
        ∙ ap (λ e. entered_after e code) kept.entered_is ∙ sym is;
    shown_is =
        ap (shown_by 0) put-behind ∙ shown-push 0 codes code ∙ ap (λ n. shown_after n code) kept.shown_is ∙ shown;
  }

  pub replies-pushed : (before : List Reply) (said : Reply) → replies_of_codes others 0 0 codes ≡ before
      → reply_of_code all entered (length others) code ≡ said → replies_of_codes all 0 0 after ≡ before ++ said ∷ []
  replies-pushed before said was is =
      let front : replies_of_codes all 0 0 codes ≡ before =
      ap (λ l. replies_of_codes l 0 0 codes) grown
      ∙ replies-grown others more 0 0 codes (omega (arith, kept.shown_is)) ∙ was in
      let last : reply_of_code all (entered_by 0 codes) (shown_by 0 codes) code ≡ said =
      ap (λ e. reply_of_code all e (shown_by 0 codes) code) kept.entered_is
      ∙ ap (λ n. reply_of_code all entered n code) kept.shown_is ∙ is in
      ap (replies_of_codes all 0 0) put-behind ∙ replies-push all 0 0 codes code
      ∙ ap (λ rs. rs ++ reply_of_code all (entered_by 0 codes) (shown_by 0 codes) code ∷ []) front
      ∙ ap (λ r. before ++ r ∷ []) last
