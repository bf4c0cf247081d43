-- SPDX-License-Identifier: Apache-2.0 OR MIT
-- A body that is read beside the buffer, into a block of its own.
use Rattle.std.proofs.Common.{◌≡◌, ◌∙◌, ℕ, ◌+◌, ◌<◌, ◌≤◌, List, [], ◌++◌, length, take, drop, Option, refl, sym, ap}
use Rattle.std.proofs.Common.{inl, inr, arith, append_assoc, append-nil, length-append, length-drop, length-take}
use Rattle.std.specs.Prelude.{replicate}
use Rattle.std.proofs.lemmas.List.{drop-append-le, take-append-le, take-append-drop, length-replicate}
use Rattle.std.proofs.Math.Seq.{drop-append_seam}
use Rattle.cr_http.specs.declared.fill_body.BodyFill.{BodyFill}
use Rattle.cr_http.specs.declared.fill_body.BodyFill.TheVariants as fills
use Rattle.cr_http.specs.BodyFill.{FillsBody, HoldsBody, KeepsBlock}
use Rattle.cr_http.specs.Filling.{Moves, ReadsWhile}

cancel : (xs a b : List ℕ) → xs ++ a ≡ xs ++ b → a ≡ b
cancel xs a b e = sym (drop-append_seam xs a) ∙ ap (drop (length xs)) e ∙ drop-append_seam xs b

-- The block has zeros, and then what follows the head in these bytes.
pub record IsBeside (head : ℕ) (old block : List ℕ) : Type 0 where
  pub within : head ≤ length old
  pub is : block ≡ replicate head 0 ++ drop head old

beside-length : (head : ℕ) (old block : List ℕ) → IsBeside head old block → length block ≡ length old
beside-length head old block b =
    let l = ap length b.is ∙ length-append (replicate head 0) (drop head old) in
    let r = length-replicate {A = ℕ} head 0 in
    let d = length-drop head old in
    let w = b.within in
    omega (arith, l, r, d, w)

-- what came behind the head, where so many bytes came in all
behind : (head : ℕ) (old block got : List ℕ) → IsBeside head old block
    → drop head (block ++ got) ≡ drop head (old ++ got)
behind head old block got b =
    let zeros = replicate head 0 in
    let l = beside-length head old block b in
    let w = b.within in
    let seam : drop head (zeros ++ drop head old) ≡ drop head old =
    ap (λ n. drop n (zeros ++ drop head old)) (sym (length-replicate {A = ℕ} head 0))
    ∙ drop-append_seam zeros (drop head old) in
    drop-append-le head block got (omega (arith, l, w))
    ∙ ap (λ t. t ++ got) (ap (drop head) b.is ∙ seam)
    ∙ sym (drop-append-le head old got w)

before : (head : ℕ) (old got : List ℕ) → head ≤ length old → take head old ≡ take head (old ++ got)
before head old got w = sym (take-append-le head old got w)

-- the block put in the place of the buffer goes no further than to this end
pub put_back_within : (head end : ℕ) (old now kept : List ℕ) → kept ≡ take head old ++ drop head now → head ≤ end
    → length now ≤ end → length kept ≤ end
put_back_within head end old now kept is h n =
    let l = ap length is ∙ length-append (take head old) (drop head now) in
    let t = length-take head old in
    let d = length-drop head now in
    omega (arith, l, t, d, h, n)

-- nor does what the buffer has, once the body is whole
pub keeps_within : (head end : ℕ) (old now kept : List ℕ) (answer : BodyFill) → head ≤ end → length now ≤ end
    → KeepsBlock answer head now old kept
    → length kept ≤ end
keeps_within head end old now kept fills.Buffer h n is = put_back_within head end old now kept is h n
keeps_within head end old now kept (fills.Block blob) h n is =
    let l = ap length is.1 in
    let t = length-take head old in
    omega (arith, l, t, h)
keeps_within head end old now kept fills.Ended h n is = absurd is
keeps_within head end old now kept fills.Failed h n is = absurd is
keeps_within head end old now kept fills.OutOfMemory h n is = absurd is

module _ {S : Type 0} (left : S → Option (List ℕ)) (gives : S → S → List ℕ → Type 0) where
  -- what is read into the block while that is too short
  reads_beside : (end : ℕ) (a b : S) (old block now : List ℕ) (m : Moves (left a) (left b) block now)
      → length block ≡ length old
      → ReadsWhile left gives (λ t. length t < end) a b block now
      → ReadsWhile left gives (λ t. length t < end) a b old (old ++ m.got)
  reads_beside end a b old block now m same (inl still) =
      let none : m.got ≡ [] = cancel block m.got [] (sym m.kept ∙ still.1 ∙ sym (append-nil block)) in
      inl (still.0, ap (λ g. old ++ g) none ∙ append-nil old)
  reads_beside end a b old block now m same (inr last) =
      let came = last.before.got in
      let longer : length (old ++ came) ≡ length last.text =
      length-append old came ∙ ap (λ n. n + length came) (sym same) ∙ sym (length-append block came)
      ∙ ap length (sym last.before.kept) in
      let parts : m.got ≡ came ++ last.piece =
      cancel block m.got (came ++ last.piece) (sym m.kept ∙ last.kept ∙ ap (λ t. t ++ last.piece) last.before.kept
      ∙ append_assoc block came last.piece) in
      inr (record {
        at = last.at;
        text = old ++ came;
        before = record { got = came; given = last.before.given; kept = refl };
        wants = rw longer last.wants;
        piece = last.piece;
        given = last.given;
        kept = ap (λ g. old ++ g) parts ∙ sym (append_assoc old came last.piece);
      })

  -- the reads into the block are those of the buffer
  fills_beside : (head end : ℕ) (a b : S) (old block now kept : List ℕ) (answer : BodyFill) → IsBeside head old block
      → (m : Moves (left a) (left b) block now) → ReadsWhile left gives (λ t. length t < end) a b block now
      → HoldsBody answer head end (old ++ m.got) kept
      → FillsBody left gives a b old kept head end answer
  fills_beside head end a b old block now kept answer beside m needed holds = record {
    text = old ++ m.got;
    moves = record { got = m.got; given = m.given; kept = refl };
    needed = reads_beside end a b old block now m (beside-length head old block beside) needed;
    holds = holds;
  }

  all_length : (head : ℕ) (l l' : Option (List ℕ)) (old block now : List ℕ) → IsBeside head old block
      → (m : Moves l l' block now)
      → length (old ++ m.got) ≡ length now
  all_length head l l' old block now beside m =
      length-append old m.got ∙ ap (λ n. n + length m.got) (sym (beside-length head old block beside))
      ∙ sym (length-append block m.got)
      ∙ ap length (sym m.kept)

  -- the block put in the place of the buffer has all that came
  put_back_is : (head : ℕ) (l l' : Option (List ℕ)) (old block now : List ℕ) → IsBeside head old block
      → (m : Moves l l' block now)
      → take head old ++ drop head now ≡ old ++ m.got
  put_back_is head l l' old block now beside m =
      ap (λ t. take head old ++ drop head t) m.kept
      ∙ ap (λ t. take head old ++ t) (behind head old block m.got beside)
      ∙ ap (λ t. t ++ drop head (old ++ m.got)) (before head old m.got beside.within)
      ∙ take-append-drop head (old ++ m.got)

  -- where the body isn't whole
  pub fills_short : (head end : ℕ) (a b : S) (old block now kept : List ℕ) (answer : BodyFill)
      → ((text : List ℕ) → kept ≡ text → length text < end → HoldsBody answer head end text kept)
      → IsBeside head old block → Moves (left a) (left b) block now
      → ReadsWhile left gives (λ t. length t < end) a b block now
      → kept ≡ take head old ++ drop head now → length now < end
      → FillsBody left gives a b old kept head end answer
  fills_short head end a b old block now kept answer holds beside m needed is short =
      fills_beside head end a b old block now kept answer beside m needed
      (holds (old ++ m.got) (is ∙ put_back_is head (left a) (left b) old block now beside m)
      (rw (all_length head (left a) (left b) old block now beside m) short))

  -- where it is
  pub fills_whole : (head end : ℕ) (a b : S) (old block now kept : List ℕ) (answer : BodyFill) → IsBeside head old block
      → Moves (left a) (left b) block now → ReadsWhile left gives (λ t. length t < end) a b block now
      → KeepsBlock answer head now old kept → length now ≡ end
      → FillsBody left gives a b old kept head end answer
  fills_whole head end a b old block now kept fills.Buffer beside m needed is full =
      let all = all_length head (left a) (left b) old block now beside m ∙ full in
      fills_beside head end a b old block now kept fills.Buffer beside m needed
      (is ∙ put_back_is head (left a) (left b) old block now beside m, omega (arith, all))
  fills_whole head end a b old block now kept (fills.Block blob) beside m needed is full =
      let all = all_length head (left a) (left b) old block now beside m ∙ full in
      fills_beside head end a b old block now kept (fills.Block blob) beside m needed (
        is.1 ∙ before head old m.got beside.within,
        is.0 ∙ ap (drop head) m.kept ∙ behind head old block m.got beside,
        all,
      )
  fills_whole head end a b old block now kept fills.Ended beside m needed is full = absurd is
  fills_whole head end a b old block now kept fills.Failed beside m needed is full = absurd is
  fills_whole head end a b old block now kept fills.OutOfMemory beside m needed is full = absurd is
