-- SPDX-License-Identifier: Apache-2.0 OR MIT
-- A legal history cut where a command ends: what stands ahead is legal, and moves lead on from it; and what a command
-- adds ends where its marks say.
use Rattle.std.proofs.Common.{Bool, true, false, ◌≡◌, List, [], ◌∷◌, ◌++◌, refl, sym, ap, subst}
use Rattle.std.proofs.Common.{◌∙◌, append-nil, append_assoc, Result, Ok, Err, Some}
use Rattle.std.proofs.lemmas.Bool.{true≢false}
use Rattle.std.proofs.lemmas.List.{append_cancel_left}
use Rattle.cr_base.specs.declared.bulk.Broken.{Broken}
use Rattle.cr_base.specs.declared.entry.Entry.{Entry}
use Rattle.cr_base.specs.declared.entry.Stamp.{Stamp}
use Rattle.cr_base.specs.declared.entry.Stamped.{Stamped}
use Rattle.cr_base.specs.declared.reply.Rule.{Rule}
use Rattle.cr_base.specs.Drawn.{Drawn, grouped}
use Rattle.cr_base.specs.History.{History}
use Rattle.cr_history.specs.Invariants.{IsWhole}
use Rattle.cr_policy.specs.Added.{stamp_added}
use Rattle.cr_policy.specs.Judge.{judge, judge_bulk}
use Rattle.cr_policy.specs.Legal.{Move, calls, bulks, IsMoveAllowed, moved, followed_by}
use Rattle.cr_policy.specs.Legal.{LeadsTo, Legal}
use Rattle.cr_policy.specs.View.{view}
use Rattle.cr_policy.proofs.BulkLaws.{BulkDraws, bulk-draws}
use Rattle.cr_policy.proofs.LegalLaws.{Legal-moved}
use Rattle.cr_policy.proofs.NumberLaws.{IsGroup, accepted-group}

-- ---- where commands end

-- what stands is cut off within a command
abbrev pub is_cut : History → Bool
is_cut [] = false
is_cut (e ∷ []) = e.more
is_cut (e ∷ next ∷ H) = is_cut (next ∷ H)

pub whole-uncut : (H : History) → IsWhole H → is_cut H ≡ false
whole-uncut [] whole = refl
whole-uncut (e ∷ []) whole = whole
whole-uncut (e ∷ next ∷ H) whole = whole-uncut (next ∷ H) whole.1

cut-behind : (A : History) (e : Stamped) (C : History) → is_cut (A ++ e ∷ C) ≡ is_cut (e ∷ C)
cut-behind [] e C = refl
cut-behind (a ∷ []) e C = refl
cut-behind (a ∷ b ∷ A) e C = cut-behind (b ∷ A) e C

-- all of one command: the last entry alone has the mark that no other follows
abbrev pub IsOneCommand : History → Type 0
IsOneCommand [] = ⊥
IsOneCommand (e ∷ []) = e.more ≡ false
IsOneCommand (e ∷ next ∷ g) = (e.more ≡ true) × IsOneCommand (next ∷ g)

pub grouped-one : (stamp : Stamp) (e : Entry) (es : List Entry) → IsOneCommand (grouped stamp (e ∷ es))
grouped-one stamp e [] = refl
grouped-one stamp e (next ∷ []) = (refl, refl)
grouped-one stamp e (next ∷ last ∷ es) = (refl, grouped-one stamp next (last ∷ es))

-- what it begins with is cut off
one-cut : (c x : Stamped) (C D : History) → IsOneCommand (c ∷ C ++ x ∷ D) → is_cut (c ∷ C) ≡ true
one-cut c x [] D one = one.0
one-cut c x (next ∷ C) D one = one-cut next x C D one.1

-- ---- what a move adds

-- a move that is allowed, and the group that it adds: nothing, or one command's entries
pub data Adds (H : History) (move : Move) : Type 0 where
  nothing : moved H move ≡ H → Adds H move
  command : (g : History) → IsOneCommand g → moved H move ≡ H ++ g → Adds H move

none-or-one : (H : History) (move : Move) (stamp : Stamp) (es : List Entry) → moved H move ≡ H ++ grouped stamp es
    → Adds H move
none-or-one H move stamp [] is = nothing (is ∙ append-nil H)
none-or-one H move stamp (e ∷ es) is = command (grouped stamp (e ∷ es)) (grouped-one stamp e es) is

pub move-adds : (H : History) (move : Move) → Legal H → IsMoveAllowed H move → Adds H move
move-adds H (calls call) legal allowed = by (judge (view call.caller H) call) refl
  where
    by : (r : Result Drawn Rule) → judge (view call.caller H) call ≡ r → Adds H (calls call)
    by (Err rule) is = nothing (ap (λ (r : Result Drawn Rule). followed_by H r) is)
    by (Ok d) is =
        let group : IsGroup (stamp_added H call) d.group = accepted-group H call d legal allowed is in
        none-or-one H (calls call) (stamp_added H call) group.entries
        (ap (λ (r : Result Drawn Rule). followed_by H r) is ∙ ap (λ (g : History). H ++ g) group.is)
move-adds H (bulks bulk) legal allowed = by (judge_bulk (view (Some bulk.stamp.maker) H) bulk) refl
  where
    by : (r : Result Drawn Broken) → judge_bulk (view (Some bulk.stamp.maker) H) bulk ≡ r → Adds H (bulks bulk)
    by (Err refusal) is = nothing (ap (λ (r : Result Drawn Broken). followed_by H r) is)
    by (Ok d) is =
        let draws : BulkDraws bulk.stamp H bulk.rows d = bulk-draws bulk.stamp H bulk.rows d is in
        none-or-one H (bulks bulk) bulk.stamp draws.entries
        (ap (λ (r : Result Drawn Broken). followed_by H r) is
        ∙ ap (λ (x : Drawn). H ++ x.group) (sym draws.drawn_is))

-- what moves lead to begins with what they lead from
leads-grow : (from to : History) (moves : List Move) → Legal from → LeadsTo from moves to
    → (g : History) × (to ≡ from ++ g)
leads-grow from to [] legal leads = ([], sym leads ∙ sym (append-nil from))
leads-grow from to (move ∷ moves) legal leads =
    let rest = leads-grow (moved from move) to moves (Legal-moved from move legal leads.0) leads.1 in
    by (move-adds from move legal leads.0) rest
  where
    by : Adds from move → (g : History) × (to ≡ moved from move ++ g) → (g : History) × (to ≡ from ++ g)
    by (nothing is) rest = (rest.0, rest.1 ∙ ap (λ (H : History). H ++ rest.0) is)
    by (command g one is) rest =
        (g ++ rest.0, rest.1 ∙ ap (λ (H : History). H ++ rest.0) is ∙ append_assoc from g rest.0)

-- ---- a cut

-- one beginning of a history is the other's, or goes on behind it
pub data Begins (g C : History) : Type 0 where
  within : (D : History) → C ≡ g ++ D → Begins g C
  beyond : (x : Stamped) (D : History) → g ≡ C ++ x ∷ D → Begins g C

begins : (g C m n : History) → g ++ m ≡ C ++ n → Begins g C
begins [] C m n is = within C refl
begins (e ∷ g) [] m n is = beyond e g refl
begins (e ∷ g) (c ∷ C) m n is = by (begins g C m n (tails (g ++ m) (C ++ n) is))
  where
    tails : (xs ys : History) → e ∷ xs ≡ c ∷ ys → xs ≡ ys
    tails xs ys is = cc

    heads : e ≡ c
    heads = cc

    by : Begins g C → Begins (e ∷ g) (c ∷ C)
    by (within D is) = within D (λ i. sym heads i ∷ is i)
    by (beyond x D is) = beyond x D (λ i. heads i ∷ is i)

-- where it is cut at the end of a command, what stands ahead is legal, and moves lead on
pub record CutAt (H end : History) : Type 0 where
  pub legal : Legal H
  pub moves : List Move
  pub leads : LeadsTo H moves end

cut-from : (from : History) (moves : List Move) (end : History) → Legal from → LeadsTo from moves end
    → (C B : History) → end ≡ (from ++ C) ++ B → is_cut (from ++ C) ≡ false → CutAt (from ++ C) end
cut-from from moves end legal leads [] B is uncut =
    subst (λ (H : History). CutAt H end) (sym (append-nil from))
    (record { legal = legal; moves = moves; leads = leads })
cut-from from [] end legal leads (c ∷ C) B is uncut =
    absurd (longer (append_cancel_left from [] ((c ∷ C) ++ B)
    (append-nil from ∙ leads ∙ is ∙ append_assoc from (c ∷ C) B)))
  where
    longer : [] ≡ c ∷ (C ++ B) → ⊥
    longer is = cc
cut-from from (move ∷ moves) end legal leads (c ∷ C) B is uncut =
    by (move-adds from move legal leads.0) leads.0 leads.1
    (cut-from (moved from move) moves end (Legal-moved from move legal leads.0) leads.1)
  where
    by : Adds from move → IsMoveAllowed from move → LeadsTo (moved from move) moves end
        → ((C B : History) → end ≡ (moved from move ++ C) ++ B → is_cut (moved from move ++ C) ≡ false
        → CutAt (moved from move ++ C) end) → CutAt (from ++ c ∷ C) end
    by (nothing same) allowed leads rest =
        subst (λ (H : History). CutAt (H ++ c ∷ C) end) same
        (rest (c ∷ C) B (is ∙ ap (λ (H : History). (H ++ c ∷ C) ++ B) (sym same))
        (ap (λ (H : History). is_cut (H ++ c ∷ C)) same ∙ uncut))
    by (command g one grows) allowed leads rest =
        let on = leads-grow (moved from move) end moves (Legal-moved from move legal allowed) leads in
        at (begins g (c ∷ C) on.0 B
        (append_cancel_left from (g ++ on.0) ((c ∷ C) ++ B)
        (sym (append_assoc from g on.0) ∙ ap (λ (H : History). H ++ on.0) (sym grows) ∙ sym on.1 ∙ is
        ∙ append_assoc from (c ∷ C) B)))
      where
        at : Begins g (c ∷ C) → CutAt (from ++ c ∷ C) end
        at (within D same) =
            let whole : moved from move ++ D ≡ from ++ c ∷ C =
            ap (λ (H : History). H ++ D) grows ∙ append_assoc from g D ∙ ap (λ (H : History). from ++ H) (sym same) in
            subst (λ (H : History). CutAt H end) whole
            (rest D B (is ∙ ap (λ (H : History). H ++ B) (sym whole)) (ap is_cut whole ∙ uncut))
        at (beyond x D same) =
            absurd (true≢false (sym (one-cut c x C D (subst IsOneCommand same one)) ∙ sym (cut-behind from c C) ∙ uncut))

pub cut-at : (end H B : History) → Legal end → end ≡ H ++ B → is_cut H ≡ false → CutAt H end
cut-at end H B legal is uncut = cut-from [] legal.0 end ([], refl) legal.1 H B is uncut

-- ---- the next command

-- the first move that adds something
pub record NextMove (H end : History) : Type 0 where
  pub move : Move
  pub allowed : IsMoveAllowed H move
  pub group : History
  pub one : IsOneCommand group
  pub grows : moved H move ≡ H ++ group
  pub rest : History
  pub is : end ≡ (H ++ group) ++ rest

pub next-move : (H : History) (moves : List Move) (end : History) → Legal H → LeadsTo H moves end
    → (b : Stamped) (B : History) → end ≡ H ++ b ∷ B → NextMove H end
next-move H [] end legal leads b B is =
    absurd (longer (append_cancel_left H [] (b ∷ B) (append-nil H ∙ leads ∙ is)))
  where
    longer : [] ≡ b ∷ B → ⊥
    longer is = cc
next-move H (move ∷ moves) end legal leads b B is =
    by (move-adds H move legal leads.0)
    (next-move (moved H move) moves end (Legal-moved H move legal leads.0) leads.1 b B)
    (leads-grow (moved H move) end moves (Legal-moved H move legal leads.0) leads.1)
  where
    by : Adds H move → (end ≡ moved H move ++ b ∷ B → NextMove (moved H move) end)
        → (g : History) × (end ≡ moved H move ++ g) → NextMove H end
    by (nothing same) next on =
        subst (λ (G : History). NextMove G end) same
        (next (is ∙ ap (λ (G : History). G ++ b ∷ B) (sym same)))
    by (command g one grows) next on = record {
      move = move;
      allowed = leads.0;
      group = g;
      one = one;
      grows = grows;
      rest = on.0;
      is = on.1 ∙ ap (λ (G : History). G ++ on.0) grows;
    }
