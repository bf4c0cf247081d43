-- SPDX-License-Identifier: Apache-2.0 OR MIT
-- What is shown of an entry, where tests tell which of its parts are shown.
use Rattle.std.proofs.Common.{Bool, true, false, ◌≡◌, ◌∙◌, [], ◌∷◌, refl, sym, ap, Option, Some}
use Rattle.std.specs.Bool.{then_some}
use Rattle.std.specs.Option.{option_map}
use Rattle.std.specs.Prelude.{◌||◌, ◌&&◌, not}
use Rattle.cr_base.specs.declared.entry.Entry.{Entry}
use Rattle.cr_base.specs.declared.entry.Stamped.{Stamped}
use Rattle.cr_base.specs.declared.standing.Standing.{Standing}
use Rattle.cr_base.specs.Lists.{given}
use Rattle.cr_base.specs.Page.{is_clear_chair, reads_paper, shows_author}
use Rattle.cr_base.specs.Phases.{committee_sees_authors}
use Rattle.cr_base.specs.Words.{is_anonymous}
use Rattle.cr_policy.specs.Sighting.{where_shown}
use Rattle.cr_policy.specs.Triggers.{Reader, Around}
use Rattle.cr_policy.specs.View.{is_seen, joined, sight}

-- a part, where a test shows it; and one that is lent
pub part-shown : {A : Type 0} (test shown : Bool) (x : A) (part : Option A) → part ≡ then_some test x → test ≡ shown
    → part ≡ where_shown shown (Some x)
part-shown test shown x part is shows = is ∙ by test ∙ ap (λ (b : Bool). where_shown b (Some x)) shows
  where
    by : (b : Bool) → then_some b x ≡ where_shown b (Some x)
    by true = refl
    by false = refl

pub lent-shown : {A B : Type 0} (f : A → B) (test shown : Bool) (x : A) (part : Option A) → part ≡ then_some test x
    → test ≡ shown
    → option_map f part ≡ where_shown shown (Some (f x))
lent-shown f test shown x part is shows =
    ap (option_map f) is ∙ by test ∙ ap (λ (b : Bool). where_shown b (Some (f x))) shows
  where
    by : (b : Bool) → option_map f (then_some b x) ≡ where_shown b (Some (f x))
    by true = refl
    by false = refl

-- behind the last row that counts, the table asks no more
pub last-row : (b : Bool) → b ≡ (b || false)
last-row true = refl
last-row false = refl

-- who is shown the authors of a paper, in the order of the table's rows, each behind those before it
pub author-shown : (by : Standing) (accepted : Bool)
    → shows_author by accepted
    ≡ (by.author || ((is_clear_chair by && committee_sees_authors by.phase)
    || ((reads_paper by && not (is_anonymous by.mode) && committee_sees_authors by.phase) || accepted)))
author-shown by accepted =
    behind by.author (is_clear_chair by && committee_sees_authors by.phase)
    (reads_paper by && not (is_anonymous by.mode) && committee_sees_authors by.phase) accepted
  where
    behind : (a b c d : Bool) → (((a || b) || c) || d) ≡ (a || (b || (c || d)))
    behind true b c d = refl
    behind false true c d = refl
    behind false false c d = refl

-- who is told of an entry by the whole or by its parts, is told of what they share
pub told-shared : (whole part more : Bool) → true ≡ (whole || ((whole && part) || ((whole && not part) || more)))
    → (whole || (more || false)) ≡ true
told-shared true part more told = refl
told-shared false part more told = sym (told ∙ last-row more)

-- what an entry shows that is seen, where it is this one
pub seen-shown : (r : Reader) (at : Around) (e : Stamped) (x : Entry) → e.entry ≡ x
    → is_seen r at (record e { entry = x }) ≡ true
    → joined r at (record e { entry = x }) ∷ [] ≡ sight r at e
seen-shown r at e x is seen =
    ap (λ (b : Bool). given b (joined r at (record e { entry = x }))) (sym seen)
    ∙ ap (λ (y : Entry). sight r at (record e { entry = y })) (sym is)
