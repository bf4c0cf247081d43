-- SPDX-License-Identifier: Apache-2.0 OR MIT
-- No rule reads who made such an entry: where others made some, the facts are the same.
use Rattle.std.proofs.Common.{ℕ, Bool, true, false, cond, ◌≡◌, suc, List, [], ◌∷◌, ◌++◌, refl, sym, ap, ◌∙◌}
use Rattle.std.proofs.Common.{None, eqb, ◌||◌, ◌&&◌}
use Rattle.std.proofs.lemmas.Bool.{true≢false}
use Rattle.std.proofs.lemmas.List.Concat.{flat_map-append}
use Rattle.cr_base.specs.declared.entry.Entry.{Entry}
use Rattle.cr_base.specs.declared.entry.Entry.TheVariants as entries
use Rattle.cr_base.specs.declared.entry.Stamp.{Stamp}
use Rattle.cr_base.specs.declared.entry.Stamped.{Stamped}
use Rattle.cr_base.specs.Calls.{stamp_by}
use Rattle.cr_base.specs.Drawn.{stamped}
use Rattle.cr_base.specs.History.{History, all_told_by}
use Rattle.cr_undeduced.specs.Makers.{has_right, has_account, may_have_made, MayHaveMade, stamp_of, made_by}

-- ---- entries whose maker no rule reads

abbrev pub IsAnyones : Entry → Type 0
IsAnyones (entries.Registered user name digest) = ⊥
IsAnyones (entries.Submitted paper title abstract) = ⊥
IsAnyones (entries.Coauthor paper user) = ⊥
IsAnyones (entries.Uploaded paper version content) = ⊥
IsAnyones (entries.Reviewed paper ordinal version form) = ⊥
IsAnyones (entries.Commented paper n ordinal text) = ⊥
IsAnyones e = Unit {0}

pub right-anyones : (w : ℕ) (H : History) (e : Entry) → has_right w H e ≡ true → IsAnyones e
right-anyones w H (entries.Registered user name digest) is = absurd (true≢false (sym is))
right-anyones w H (entries.Submitted paper title abstract) is = absurd (true≢false (sym is))
right-anyones w H (entries.Coauthor paper user) is = absurd (true≢false (sym is))
right-anyones w H (entries.Uploaded paper version content) is = absurd (true≢false (sym is))
right-anyones w H (entries.Reviewed paper ordinal version form) is = absurd (true≢false (sym is))
right-anyones w H (entries.Commented paper n ordinal text) is = absurd (true≢false (sym is))
right-anyones w H e is = tt

-- ---- two histories that tell the rules the same

-- it tells the same of such an entry whoever made it
abbrev pub Blind : {A : Type 0} → (ℕ → Entry → List A) → Type 0
Blind told = (m w : ℕ) (e : Entry) → IsAnyones e → told m e ≡ told w e

abbrev pub Alike : History → History → Type 1
Alike A B = (X : Type 0) (told : ℕ → Entry → List X) → Blind told → all_told_by told A ≡ all_told_by told B

pub alike-append : (A B g h : History) → Alike A B → Alike g h → Alike (A ++ g) (B ++ h)
alike-append A B g h alike behind X told blind =
    flat_map-append one A g
    ∙ (λ i. alike X told blind i ++ behind X told blind i)
    ∙ sym (flat_map-append one B h)
  where
    one : Stamped → List X
    one e = told e.stamp.maker e.entry

pub alike-itself : (A : History) → Alike A A
alike-itself A X told blind = refl

pub alike-then : (A B C : History) → Alike A B → Alike B C → Alike A C
alike-then A B C first then X told blind = first X told blind ∙ then X told blind

pub alike-turned : (A B : History) → Alike A B → Alike B A
alike-turned A B alike X told blind = sym (alike X told blind)

-- one entry, by another, with another mark and number
pub alike-one : (stamp other : Stamp) (more mark : Bool) (e : Entry) → IsAnyones e
    → Alike (stamped stamp more e ∷ []) (stamped other mark e ∷ [])
alike-one stamp other more mark e is X told blind = λ i. blind stamp.maker other.maker e is i ++ []

-- ---- the history by other makers

pub stamp-same : (w : ℕ) (stamp : Stamp) → eqb w stamp.maker ≡ true → stamp_of w stamp ≡ stamp
stamp-same w stamp is = ap (λ b. cond b stamp (stamp_by w stamp.at None)) is

pub stamp-other : (w : ℕ) (stamp : Stamp) → eqb w stamp.maker ≡ false → stamp_of w stamp ≡ stamp_by w stamp.at None
stamp-other w stamp is = ap (λ b. cond b stamp (stamp_by w stamp.at None)) is

either : (a b c : Bool) → (a || (b && c)) ≡ true → a ≡ false → (b ≡ true) × (c ≡ true)
either true b c is none = absurd (true≢false none)
either false true true is none = (refl, refl)
either false true false is none = absurd (true≢false (sym is))
either false false c is none = absurd (true≢false (sym is))

pub right-there : (w : ℕ) (before : History) (e : Stamped) → may_have_made w before e ≡ true
    → eqb w e.stamp.maker ≡ false → (has_account w before ≡ true) × (has_right w before e.entry ≡ true)
right-there w before e is other =
    either (eqb w e.stamp.maker) (has_account w before) (has_right w before e.entry) is other

pub made_by-alike : (ws : ℕ → ℕ) (before H : History) → MayHaveMade ws before H → Alike H (made_by ws H)
made_by-alike ws before [] may X told blind = refl
made_by-alike ws before (e ∷ H) may X told blind =
    λ i. one (eqb (ws 0) e.stamp.maker) refl i
    ++ made_by-alike (λ n. ws (suc n)) (before ++ e ∷ []) H may.2 X told blind i
  where
    one : (b : Bool) → eqb (ws 0) e.stamp.maker ≡ b
        → told e.stamp.maker e.entry
        ≡ told (cond b e.stamp (stamp_by (ws 0) e.stamp.at None)).maker e.entry
    one true same = refl
    one false other =
        blind e.stamp.maker (ws 0) e.entry
        (right-anyones (ws 0) before e.entry (right-there (ws 0) before e may.0 other).1)
