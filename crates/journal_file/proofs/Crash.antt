-- What a crash leaves while lines are written, and while the length changes.
use Rattle.std.proofs.Common.{◌≡◌, ◌⊎◌, inl, inr, ⊎_elim, ℕ, zero, suc, ◌+◌, ◌-◌, ◌≤◌, ◌<◌, List, ◌++◌, length, take}
use Rattle.std.proofs.Common.{drop, get_or}
use Rattle.std.proofs.Common.{replicate, sym, ◌∙◌, ap, subst, arith, append_assoc, length-append, take-append-drop}
use Rattle.std.proofs.Math.Seq.{take-append-add, drop-append-add}
use Rattle.std.proofs.lemmas.List.{take_at, drop_at, take_all, append-nil, get_or-drop, get_or-replicate, get_or-take}
use Rattle.std.proofs.lemmas.List.{length-take}
use Rattle.std.proofs.lemmas.Grind.{same_number_lists}
use Rattle.std.proofs.lemmas.List.{drop-replicate, length-replicate, replicate-append-replicate}
use Rattle.journal_file.specs.Device.{IsOverwritten, IsTorn, IsResized, resized}
use Rattle.journal_file.specs.Committed.{has_line, committed, HasTornEnd, IsBegun, Means}
use Rattle.journal_file.specs.declared.committed.TheConstants.{LONGEST_WRITE}
use Rattle.journal_file.proofs.TornEnds.{nul-behind, nul-replicate, torn-end-from, torn-end-resized}
use Rattle.journal_file.proofs.Lines.{parts, committed-append, committed-end, committed-twice, has_line-take}
use Rattle.journal_file.proofs.Lines.{has_line-room, has_line-replicate, leads}

take_past : (xs ys : List ℕ) (m n : ℕ) → m ≡ length xs + n → take m (xs ++ ys) ≡ xs ++ take n ys
take_past xs ys m n is = ap (λ (k : ℕ). take k (xs ++ ys)) is ∙ take-append-add xs ys n

drop_past : (xs ys : List ℕ) (m n : ℕ) → m ≡ length xs + n → drop m (xs ++ ys) ≡ drop n ys
drop_past xs ys m n is = ap (λ (k : ℕ). drop k (xs ++ ys)) is ∙ drop-append-add xs ys n

module _ (file : List ℕ) where
  abbrev text : List ℕ
  text = committed file

  size : length file ≡ length text + length (parts file).end
  size = ap length (parts file).split ∙ length-append text (parts file).end

  pub text_fits : length text ≤ length file
  text_fits = omega (arith, size)

  -- a file of any length that has the text, as a crash in a change of length leaves it
  resized_parts : (n : ℕ) → length text ≤ n
      → resized n file ≡ text ++ (take (n - length text) (parts file).end ++ replicate (n - length file) 0)
  resized_parts n long =
      ap (λ (l : List ℕ). l ++ replicate (n - length file) 0) (ap (λ (l : List ℕ). take n l) (parts file).split
      ∙ take_past text (parts file).end n (n - length text) (omega (arith, long)))
      ∙ append_assoc text (take (n - length text) (parts file).end) (replicate (n - length file) 0)

  -- any change of length that doesn't reach into the text keeps it
  pub resized_keeps : (len : ℕ) (c : List ℕ) → length text ≤ len → IsResized len file c → committed c ≡ text
  resized_keeps len c long crashed =
      let n = length c in
      let at_least : length text ≤ n = omega (arith, long, text_fits, crashed.no_shorter) in
      ap committed (crashed.bytes ∙ resized_parts n at_least)
      ∙ committed-end text (take (n - length text) (parts file).end ++ replicate (n - length file) 0)
      (committed-twice file)
      (has_line-room (take (n - length text) (parts file).end) (n - length file)
      (has_line-take (n - length text) (parts file).end (parts file).nothing))

  -- and no more is behind it than before
  pub resized_means : (len : ℕ) (c : List ℕ) → length text ≤ len → HasTornEnd file → IsResized len file c → Means text c
  resized_means len c long torn crashed =
      let same = resized_keeps len c long crashed in (same, torn-end-resized file c len same torn crashed)

  pub cut_done : (len : ℕ) → len ≡ length text → resized len file ≡ text
  cut_done len is =
      let none : len - length file ≡ 0 = omega (arith, is, text_fits) in
      ap (λ (l : List ℕ). l ++ replicate (len - length file) 0) (ap (λ (l : List ℕ). take len l) (parts file).split
      ∙ take_at text (parts file).end len (sym is))
      ∙ ap (λ (k : ℕ). text ++ replicate k 0) none ∙ append-nil text

  module _ (end room : ℕ) (is_text : file ≡ text ++ replicate room 0) (ends_at : end ≡ length text) where
    length_file : length file ≡ end + room
    length_file = omega (
      arith,
      ap length is_text,
      length-append text (replicate room 0),
      length-replicate {A =
          ℕ} room 0,
      ends_at,
    )

    pub grown : (more : ℕ) → room ≤ more → resized (end + more) file ≡ text ++ replicate more 0
    grown more le =
        let rest : end + more - length file ≡ more - room = omega (arith, length_file, le) in
        let total : room + (more - room) ≡ more = omega (arith, le) in
        ap (λ (l : List ℕ). l ++ replicate (end + more - length file) 0)
        (take_all (end + more) file (omega (arith, length_file, le)) ∙ is_text)
        ∙ ap (λ (k : ℕ). text ++ replicate room 0 ++ replicate k 0) rest
        ∙ append_assoc text (replicate room 0) (replicate (more - room) 0)
        ∙ ap (λ (l : List ℕ). text ++ l) (replicate-append-replicate room (more - room) 0)
        ∙ ap (λ (k : ℕ). text ++ replicate k 0) total

    module _ (lines : List ℕ) (fits : length lines < room) (few : length lines ≤ LONGEST_WRITE) where
      -- a torn write of lines over the room
      pub torn_lines : (c : List ℕ) → IsTorn end lines file c → IsBegun text lines c
      torn_lines c torn =
          let behind = drop end c in
          let front : take end c ≡ text =
          torn.before ∙ ap (λ (l : List ℕ). take end l) is_text
          ∙ take_at text (replicate room 0) end (sym ends_at) in
          let whole : c ≡ text ++ behind = sym (take-append-drop end c) ∙ ap (λ (l : List ℕ). l ++ behind) front in
          let rest : drop (length lines) behind ≡ replicate (room - length lines) 0 =
          sym (drop_past text behind (end + length lines) (length lines) (omega (arith, ends_at)))
          ∙ ap (λ (l : List ℕ). drop (end + length lines) l) (sym whole) ∙ torn.after
          ∙ ap (λ (l : List ℕ). drop (end + length lines) l) is_text
          ∙ drop_past text (replicate room 0) (end + length lines) (length lines) (omega (arith, ends_at))
          ∙ drop-replicate (length lines) room 0 in
          let was : (k : ℕ) → k < length lines → get_or file (end + k) 0 ≡ 0 = λ k lt.
          sym (get_or-drop end file k 0)
          ∙ ap (λ (l : List ℕ). get_or l k 0) (ap (λ (l : List ℕ). drop end l) is_text
          ∙ drop_at text (replicate room 0) end (sym ends_at))
          ∙ get_or-replicate room k 0 0 (omega (arith, lt, fits)) in
          let each : (k : ℕ) → k < length lines → (get_or behind k 0 ≡ 0) ⊎ (get_or behind k 0 ≡ get_or lines k 0) =
          λ k lt.
          ⊎_elim (λ old. inl (get_or-drop end c k 0 ∙ old ∙ was k lt)) (λ new. inr (get_or-drop end c k 0 ∙ new))
          (torn.each k lt) in
          let some = leads lines behind each (ap has_line rest ∙ has_line-replicate (room - length lines)) in
          let means : committed c ≡ text ++ committed (take some.count lines) =
          ap committed whole ∙ committed-append text behind (committed-twice file)
          ∙ ap (λ (l : List ℕ). text ++ l) some.same in
          let room_behind : (k : ℕ) → get_or (drop (length lines) behind) k 0 ≡ 0 = λ k.
          ap (λ (l : List ℕ). get_or l k 0) rest ∙ nul-replicate (room - length lines) k in (
            some.count,
            (
              means,
              torn-end-from c (end + length lines)
                  (omega (arith, ap length means, length-append text (committed (take some.count lines)), ends_at, few))
                  (λ k le. let j = k - (end + length lines) in
                  let at : end + (length lines + j) ≡ k = omega (arith, le) in
                  ap (λ (n : ℕ). get_or c n 0) (sym at)
                  ∙ nul-behind end (length lines + j) c (nul-behind (length lines) j behind (room_behind j))),
            ),
          )

      pub written_lines : (c : List ℕ) → IsOverwritten file end lines c
          → c ≡ text ++ lines ++ replicate (room - length lines) 0
      written_lines c holds =
          holds
          ∙ ap (λ (l : List ℕ). l ++ lines ++ drop (end + length lines) file) (ap (λ (l : List ℕ). take end l) is_text
          ∙ take_at text (replicate room 0) end (sym ends_at))
          ∙ ap (λ (l : List ℕ). text ++ lines ++ l) (ap (λ (l : List ℕ). drop (end + length lines) l) is_text
          ∙ drop_past text (replicate room 0) (end + length lines) (length lines) (omega (arith, ends_at))
          ∙ drop-replicate (length lines) room 0)

-- whole lines and room mean the lines
pub committed-text : (text : List ℕ) (room : ℕ) → committed text ≡ text → committed (text ++ replicate room 0) ≡ text
committed-text text room whole = committed-end text (replicate room 0) whole (has_line-replicate room)

-- whole lines after whole lines
pub committed-both : (file lines : List ℕ) → committed lines ≡ lines
    → committed (committed file ++ lines) ≡ committed file ++ lines
committed-both file lines whole =
    committed-append (committed file) lines (committed-twice file) ∙ ap (λ (l : List ℕ). committed file ++ l) whole

-- a place is in front of another or not
pub below_or_not : (k n : ℕ) → (k < n) ⊎ (n ≤ k)
below_or_not k zero = inr (omega arith)
below_or_not zero (suc n) = inl (omega arith)
below_or_not (suc k) (suc n) =
    elim (below_or_not k n) [ inl lt ↦ inl (omega (arith, lt)) | inr le ↦ inr (omega (arith, le)) ]

-- A write of what is there leaves what is there, however torn.
pub torn_over_itself : (file c : List ℕ) (n : ℕ) → IsTorn 0 (take n file) file c → c ≡ file
torn_over_itself file c n torn =
    same_number_lists c file torn.same_length (λ k lt. elim (below_or_not k (length (take n file))) [
      | inl front ↦
          let at : 0 + k ≡ k = omega arith in
          let in_front : k < n = omega (arith, front, length-take n file) in
          ap (λ (i : ℕ). get_or c i 0) (sym at)
          ∙ ⊎_elim (λ old. old ∙ ap (λ (i : ℕ). get_or file i 0) at) (λ new. new ∙ get_or-take n file k 0 in_front)
          (torn.each k front)
      | inr behind ↦
          let m = 0 + length (take n file) in
          let at : m + (k - m) ≡ k = omega (arith, behind) in
          ap (λ (i : ℕ). get_or c i 0) (sym at) ∙ sym (get_or-drop m c (k - m) 0)
          ∙ ap (λ (l : List ℕ). get_or l (k - m) 0) torn.after ∙ get_or-drop m file (k - m) 0
          ∙ ap (λ (i : ℕ). get_or file i 0) at
    ])

pub torn_same : (file lines d f : List ℕ) (n : ℕ) → lines ≡ take n file → d ≡ file → IsTorn 0 lines d f → f ≡ file
torn_same file lines d f n is was torn =
    torn_over_itself file f n (subst (λ (l : List ℕ). IsTorn 0 l file f) is
    (subst (λ (e : List ℕ). IsTorn 0 lines e f) was torn))

-- and is done as if nothing was
pub written_same : (file lines c : List ℕ) (n : ℕ) → lines ≡ take n file → n ≤ length file
    → IsOverwritten file 0 lines c → c ≡ file
written_same file lines c n is fits done =
    let all : 0 + length lines ≡ n = omega (arith, ap length is, length-take n file, fits) in
    done ∙ ap (λ (m : ℕ). lines ++ drop m file) all ∙ ap (λ (l : List ℕ). l ++ drop n file) is
    ∙ take-append-drop n file
