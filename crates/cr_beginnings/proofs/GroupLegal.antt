-- SPDX-License-Identifier: Apache-2.0 OR MIT
-- Legal histories that begin alike: where a legal history goes on from another, moves lead from that one on.
use Rattle.std.proofs.Common.{◌≡◌, ◌⊎◌, inl, inr, List, [], ◌∷◌, ◌++◌, length, refl, sym, ap, subst, ◌∙◌, arith}
use Rattle.std.proofs.Common.{append_assoc, append-nil, length-append, Some, Result, Ok, Err}
use Rattle.std.proofs.lemmas.List.{append_cancel_left}
use Rattle.cr_base.specs.declared.bulk.Broken.{Broken}
use Rattle.cr_base.specs.declared.command.Call.{Call}
use Rattle.cr_base.specs.declared.entry.Entry.{Entry}
use Rattle.cr_base.specs.declared.entry.Entry.TheVariants.{Submitted}
use Rattle.cr_base.specs.declared.entry.Stamp.{Stamp}
use Rattle.cr_base.specs.declared.reply.Rule.{Rule}
use Rattle.cr_base.specs.Calls.{BulkCall}
use Rattle.cr_base.specs.History.{History}
use Rattle.cr_base.specs.Drawn.{Drawn, grouped}
use Rattle.cr_policy.specs.Judge.{judge, judge_bulk, view_basis}
use Rattle.cr_policy.specs.Legal.{IsAllowed, IsBulkAllowed, Move, calls, bulks, IsMoveAllowed, moved, followed_by}
use Rattle.cr_policy.specs.Legal.{LeadsTo, Legal}
use Rattle.cr_policy.specs.View.{view}
use Rattle.cr_history.specs.Groups.{Adds, single, submitted, first_user}
use Rattle.cr_policy.proofs.AcceptedLaws.{accepted-adds}
use Rattle.cr_beginnings.proofs.BulkParts.{bulk-parts}
use Rattle.cr_beginnings.specs.Beginnings.{IsGroup}
use Rattle.cr_beginnings.proofs.GroupRows.{group-first}

-- ---- one call that adds

-- what is judged of a call
abbrev judgement : History → Call → Result Drawn Rule
judgement H call = judge (view call.caller H) call

-- an allowed call adds the group
pub record MayAdd (H group : History) : Type 0 where
  pub call : Call
  pub allowed : IsAllowed H call
  pub drawn : Drawn
  pub accepted : judge (view call.caller H) call ≡ Ok drawn
  pub group_is : group ≡ drawn.group

-- the entries of one command are a group
pub grouped-group : (stamp : Stamp) (e : Entry) (es : List Entry) → IsGroup (grouped stamp (e ∷ es))
grouped-group stamp e [] = refl
grouped-group stamp e (next ∷ []) = (refl, refl)
grouped-group stamp e (next ∷ more ∷ es) = (refl, grouped-group stamp next (more ∷ es))

adds-group : (H g : History) → Adds H g → IsGroup g
adds-group H g (single stamp e moment made marked ruled) = refl
adds-group H g (submitted stamp paper title abstract users moment made ruled registered) =
    grouped-group stamp (Submitted paper title abstract) _
adds-group H g (first_user stamp name digest moment is texts) = (refl, refl)

-- what is added is a group
pub may_add-group : (H g : History) → MayAdd H g → IsGroup g
may_add-group H g add = subst (λ (x : History). IsGroup x) (sym add.group_is)
    (adds-group H add.drawn.group (accepted-adds H add.call add.drawn add.allowed.given add.accepted))

-- ---- one bulk that adds

-- an allowed bulk adds the group, of an entry at least
pub record MayAddRows (H group : History) : Type 0 where
  pub bulk : BulkCall
  pub allowed : IsBulkAllowed H bulk
  pub drawn : Drawn
  pub accepted : judge_bulk (view (Some bulk.stamp.maker) H) bulk ≡ Ok drawn
  pub group_is : group ≡ drawn.group
  pub some : IsGroup group

-- ---- moves

-- an allowed move adds the group
abbrev pub MayMove : History → History → Type 0
MayMove H group = MayAdd H group ⊎ MayAddRows H group

pub may_move-group : (H g : History) → MayMove H g → IsGroup g
may_move-group H g (inl add) = may_add-group H g add
may_move-group H g (inr rows) = rows.some

-- a move that leads on
pub record Moved (H to : History) : Type 0 where
  pub group : History
  pub move : MayMove H group
  pub to_is : to ≡ H ++ group

-- an allowed move leads on by a group, or nowhere
pub moved-or : (H : History) (move : Move) → IsMoveAllowed H move → (moved H move ≡ H) ⊎ Moved H (moved H move)
moved-or H (calls call) allowed = by (judgement H call) refl
  where
    by : (r : Result Drawn Rule) → judgement H call ≡ r → (followed_by H r ≡ H) ⊎ Moved H (followed_by H r)
    by (Ok drawn) is =
        inr
        (record {
          group = drawn.group;
          move = inl
              (record { call = call; allowed = allowed; drawn = drawn; accepted = is; group_is = refl });
          to_is = refl;
        })
    by (Err rule) is = inl refl
moved-or H (bulks bulk) allowed = by (judge_bulk (view (Some bulk.stamp.maker) H) bulk) refl
  where
    of_rows : (drawn : Drawn) (entries : List Entry) → grouped bulk.stamp entries ≡ drawn.group
        → judge_bulk (view (Some bulk.stamp.maker) H) bulk ≡ Ok drawn → (H ++ drawn.group ≡ H)
        ⊎ Moved H (H ++ drawn.group)
    of_rows drawn [] same is = inl (ap (λ (g : History). H ++ g) (sym same) ∙ append-nil H)
    of_rows drawn (e ∷ entries) same is = inr (record {
      group = drawn.group;
      move = inr (record {
        bulk = bulk;
        allowed = allowed;
        drawn = drawn;
        accepted = is;
        group_is = refl;
        some = subst (λ (g : History). IsGroup g) same (grouped-group bulk.stamp e entries);
      });
      to_is = refl;
    })

    by : (r : Result Drawn Broken) → judge_bulk (view (Some bulk.stamp.maker) H) bulk ≡ r
        → (followed_by H r ≡ H) ⊎ Moved H (followed_by H r)
    by (Err refusal) is = inl refl
    by (Ok drawn) is =
        let parts = bulk-parts (view_basis bulk.stamp.maker) (view (Some bulk.stamp.maker) H) bulk drawn is in
        of_rows drawn parts.entries (ap (λ (d : Drawn). d.group) parts.drawn_is) is

-- ---- many moves

-- the first move that adds a group, and those behind it
pub record Next (from to : History) : Type 0 where
  pub group : History
  pub add : MayMove from group
  pub moves : List Move
  pub leads : LeadsTo (from ++ group) moves to

next_group : (from to : History) (moves : List Move) → LeadsTo from moves to → (from ≡ to) ⊎ Next from to
next_group from to [] leads = inl leads
next_group from to (move ∷ moves) leads = by (moved-or from move leads.0) (λ then. next_group from to moves then)
  where
    by : (moved from move ≡ from) ⊎ Moved from (moved from move) → (LeadsTo from moves to → (from ≡ to) ⊎ Next from to)
        → (from ≡ to) ⊎ Next from to
    by (inl same) rest = rest (subst (λ (h : History). LeadsTo h moves to) same leads.1)
    by (inr on) rest =
        inr
        (record {
          group = on.group;
          add = on.move;
          moves = moves;
          leads = subst (λ (h : History). LeadsTo h moves to) on.to_is leads.1;
        })

-- moves only add
leads-extends : (from to : History) (moves : List Move) → LeadsTo from moves to → (tail : History) × (to ≡ from ++ tail)
leads-extends from to [] leads = ([], sym leads ∙ sym (append-nil from))
leads-extends from to (move ∷ moves) leads =
    by (moved-or from move leads.0) (leads-extends (moved from move) to moves leads.1)
  where
    by : (moved from move ≡ from) ⊎ Moved from (moved from move) → (tail : History) × (to ≡ moved from move ++ tail)
        → (tail : History) × (to ≡ from ++ tail)
    by (inl same) rest = (rest.0, rest.1 ∙ ap (λ (h : History). h ++ rest.0) same)
    by (inr on) rest =
        (on.group ++ rest.0, rest.1 ∙ ap (λ (h : History). h ++ rest.0) on.to_is ∙ append_assoc from on.group rest.0)

group_some : (from g rest : History) → IsGroup g → from ≡ (from ++ g) ++ rest → ⊥
group_some from [] rest ig e' = elim ig [ ]
group_some from (e ∷ g) rest ig e' =
    let n = length-append (from ++ e ∷ g) rest in
    let m = length-append from (e ∷ g) in
    let same = ap length e' in
    omega (arith, n, m, same)

-- where both go on from one history by a group, it is the same group
same-group : (from g h a b : History) → IsGroup g → IsGroup h → (from ++ g) ++ a ≡ (from ++ h) ++ b → g ≡ h
same-group from g h a b ig ih e =
    group-first g h a b ig ih (append_cancel_left from (g ++ a) (h ++ b)
    (sym (append_assoc from g a) ∙ e ∙ append_assoc from h b))

-- where moves lead to two histories, of which one begins the other, moves lead from the one to the other
leads-on : (from log to after : History) (moves more : List Move) → LeadsTo from moves log → LeadsTo from more to
    → to ≡ log ++ after → (rest : List Move) × LeadsTo log rest to
leads-on from log to after [] more first then goes = (more, subst (λ (h : History). LeadsTo h more to) first then)
leads-on from log to after (move ∷ moves) more first then goes =
    by (moved-or from move first.0) (λ more then. leads-on (moved from move) log to after moves more first.1 then goes)
  where
    by : (moved from move ≡ from) ⊎ Moved from (moved from move)
        → ((more : List Move) → LeadsTo (moved from move) more to → (rest : List Move) × LeadsTo log rest to)
        → (rest : List Move) × LeadsTo log rest to
    by (inl same) on = on more (subst (λ (h : History). LeadsTo h more to) (sym same) then)
    by (inr step) on = or (next_group from to more then)
      where
        added : IsGroup step.group
        added = may_move-group from step.group step.move

        beyond : (tail : History) × (log ≡ (from ++ step.group) ++ tail)
        beyond = let more = leads-extends (moved from move) log moves
            first.1 in (more.0, more.1 ∙ ap (λ (h : History). h ++ more.0) step.to_is)

        reached : to ≡ (from ++ step.group) ++ (beyond.0 ++ after)
        reached = goes ∙ ap (λ (h : History). h ++ after) beyond.1 ∙ append_assoc (from ++ step.group) beyond.0 after

        or : (from ≡ to) ⊎ Next from to → (rest : List Move) × LeadsTo log rest to
        or (inl same) = absurd (group_some from step.group (beyond.0 ++ after) added (same ∙ reached))
        or (inr next) =
            let further = leads-extends (from ++ next.group) to next.moves next.leads in
            let is_same : step.group ≡ next.group = same-group from step.group next.group (beyond.0 ++ after) further.0
            added (may_move-group from next.group next.add) (sym reached ∙ further.1) in
            on next.moves (subst (λ (h : History). LeadsTo h next.moves to)
            (sym (step.to_is ∙ ap (λ (g : History). from ++ g) is_same)) next.leads)

-- a legal history that begins with another goes on from it by the group of an allowed move, or is the same
pub legal-next : (log to after : History) → Legal log → Legal to → to ≡ log ++ after → (log ≡ to) ⊎ Next log to
legal-next log to after legal whole goes = let rest =
    leads-on [] log to after legal.0 whole.0 legal.1 whole.1 goes in next_group log to rest.0 rest.1

-- behind the group comes what the moves behind it add
pub next-extends : (log to : History) (next : Next log to) → (tail : History) × (to ≡ (log ++ next.group) ++ tail)
next-extends log to next = leads-extends (log ++ next.group) to next.moves next.leads
