-- SPDX-License-Identifier: Apache-2.0 OR MIT
-- Undeducible: a group of users can rule out no value of what none of them was shown whenever they looked, by all that
-- they saw together (nondeducibility: Sutherland, NCSC 1986; with a bound on what may be learnt: Kanav, Lammich and
-- Popescu, CAV 2014). What a user is shown is said by the bounds (ShownTo), not by the trigger table.
use Rattle.std.specs.Prelude.{ℕ, Bool, ◌≡◌, ◌≤◌, ◌||◌, ◌&&◌, not, false, suc, List, [], ◌∷◌, ◌++◌, length, map, take}
use Rattle.std.specs.Prelude.{Option, Some, None, is_some}
use Rattle.std.specs.List.{list_any, Contains}
use Rattle.cr_base.specs.declared.entry.Entry.{Entry}
use Rattle.cr_base.specs.declared.entry.Entry.TheVariants.{Decided}
use Rattle.cr_base.specs.declared.entry.Stamped.{Stamped}
use Rattle.cr_base.specs.Drawn.{stamped}
use Rattle.cr_base.specs.History.{History}
use Rattle.cr_base.specs.HistoryFacts.{phase_of, own_bytes_of}
use Rattle.cr_policy.specs.Legal.{Legal}
use Rattle.cr_bounds.specs.ShownTo.{PartFor, is_told, is_decided_again, is_past_discussion, digest_for, title_for}
use Rattle.cr_bounds.specs.ShownTo.{abstract_for, content_for, value_for, review_kind_for, score_for, confidence_for}
use Rattle.cr_bounds.specs.ShownTo.{to_authors_for, to_pc_for, text_for, tag_for, switch_for, decision_for}
use Rattle.cr_policy.specs.View.{View, view}
use Rattle.cr_undeduced.specs.OtherStamps.{with_stamps, StampsFit}
use Rattle.cr_undeduced.specs.Payload.{Payload, IsBoundedPayload, Known, with_other, NoneLonger}

-- ---- looks

-- a user, or an unauthenticated caller, looks when the history has this many entries
pub record Look : Type 0 where
  pub who : Option ℕ
  pub upto : ℕ

-- a look, while the history is gone through entry by entry: who looked, the history that was there when they did, and
-- those of its entries that are still to come
pub record Looking : Type 0 where
  pub who : Option ℕ
  pub stood : History
  pub ahead : History

-- a look before the first entry of this history
abbrev pub looking_at : History → Look → Looking
looking_at H look = record { who = look.who; stood = take look.upto H; ahead = take look.upto H }

-- the entries after the first
abbrev pub behind_first : History → History
behind_first [] = []
behind_first (e ∷ later) = later

-- a look after one entry more
abbrev pub past_one : Looking → Looking
past_one look = record look { ahead = behind_first look.ahead }

-- ---- what is known of an entry

-- the user was told this part of the entry, which comes after `before`, when they looked; of an entry that wasn't there
-- yet they were told nothing
abbrev pub was_told : {A : Type 0} → PartFor (Option A) → History → Stamped → Option ℕ → History → History → Bool
was_told part before e u stood [] = false
was_told part before e u stood (own ∷ later) =
    is_told u stood before later e.stamp.maker e.entry && is_some (part u stood before later e.stamp e.entry)

-- one of those who looked was told this part of the entry
abbrev pub any_told : {A : Type 0} → PartFor (Option A) → List Looking → History → Stamped → Bool
any_told part looks before e =
    list_any (λ (look : Looking). was_told part before e look.who look.stood look.ahead) looks

-- the entry was the last decision on its paper when somebody looked at the notification or later: then everyone is
-- shown whether the paper is accepted
abbrev pub was_final : Entry → History → History → Bool
was_final (Decided paper decision) stood [] = false
was_final (Decided paper decision) stood (own ∷ later) =
    is_past_discussion (phase_of stood) && not (is_decided_again paper later)
was_final e stood ahead = false

-- the entry was final (`was_final`) when one of them looked
abbrev pub any_final : List Looking → Entry → Bool
any_final looks e = list_any (λ (look : Looking). was_final e look.stood look.ahead) looks

-- what is known of an entry: each part that one of those who looked was told, and a decision that was final
abbrev pub known_of : List Looking → History → Stamped → Known
known_of looks before e = record {
  digest = any_told digest_for looks before e;
  title = any_told title_for looks before e;
  abstract_ = any_told abstract_for looks before e;
  content = any_told content_for looks before e;
  value = any_told value_for looks before e;
  kind = any_told review_kind_for looks before e;
  score = any_told score_for looks before e;
  confidence = any_told confidence_for looks before e;
  to_authors = any_told to_authors_for looks before e;
  to_pc = any_told to_pc_for looks before e;
  text = any_told text_for looks before e;
  tag = any_told tag_for looks before e;
  on = any_told switch_for looks before e;
  decision = any_final looks e.entry || any_told decision_for looks before e;
}

-- ---- the other history

-- the later entries with other payloads, one for each place, except in what is known; `before` are the entries before
-- these
abbrev pub others_behind : List Looking → History → (ℕ → Payload) → History → History
others_behind looks before xs [] = []
others_behind looks before xs (e ∷ later) =
    stamped e.stamp e.more (with_other (known_of looks before e) (xs 0) e.entry)
    ∷ others_behind (map past_one looks) (before ++ e ∷ []) (λ n. xs (suc n)) later

-- the history with other values of all that was hidden from those who looked, whenever they did, all at once
abbrev pub with_values : List Look → (ℕ → Payload) → History → History
with_values looks xs H = others_behind (map (looking_at H) looks) [] xs H

-- who looked
abbrev pub who_looked : List Look → List (Option ℕ)
who_looked looks = map (λ (look : Look). look.who) looks

-- the history with other values of all that was hidden from those who looked, and with other timestamps, numbers and
-- marks of what none of them made
abbrev pub otherwise : List Look → (ℕ → Payload) → History → History
otherwise looks xs H = with_stamps (who_looked looks) None xs (with_values looks xs H)

-- the view of the user who looks, of the entries that were there then
abbrev pub seen_at : History → Look → View
seen_at H look = view look.who (take look.upto H)

-- ---- the clauses

-- no user has uploaded more than 64 MiB
abbrev pub IsWithinQuota : History → Type 0
IsWithinQuota H = (user : ℕ) → own_bytes_of (Some user) H ≤ 67108864

-- OthersLegal: whatever the other values are, within the bounds of commands, the other history of a legal one is legal,
-- if its stamps are such as these commands might have had (`StampsFit`) and no user has uploaded too much in it
abbrev pub OthersLegal : Type 0
OthersLegal = (looks : List Look) (xs : ℕ → Payload) (H : History) → Legal H → ((n : ℕ) → IsBoundedPayload (xs n))
    → StampsFit (otherwise looks xs H) H → IsWithinQuota (otherwise looks xs H) → Legal (otherwise looks xs H)

-- ShorterLegal: the other history of a legal one is legal, if no content is longer than the one whose place it takes
abbrev pub ShorterLegal : Type 0
ShorterLegal = (looks : List Look) (xs : ℕ → Payload) (H : History) → Legal H → ((n : ℕ) → IsBoundedPayload (xs n))
    → StampsFit (otherwise looks xs H) H → NoneLonger xs H → Legal (otherwise looks xs H)

-- LooksAlike: at each of the looks the same is seen of both histories, legal or not
abbrev pub LooksAlike : Type 0
LooksAlike = (looks : List Look) (xs : ℕ → Payload) (H : History) (look : Look) → Contains looks look
    → seen_at H look ≡ seen_at (otherwise looks xs H) look

-- each of a group looks at the end
abbrev pub all_at_end : List (Option ℕ) → History → List Look
all_at_end group H = map (λ u. record { who = u; upto = length H }) group

-- GroupAlike: each of a group who look at the end sees the same of both histories
abbrev pub GroupAlike : Type 0
GroupAlike = (group : List (Option ℕ)) (xs : ℕ → Payload) (H : History) (u : Option ℕ) → Contains group u
    → view u H ≡ view u (otherwise (all_at_end group H) xs H)
