-- SPDX-License-Identifier: Apache-2.0 OR MIT
-- What a view says of a response is what the history says, where the reader's standing tells it.
use Rattle.std.proofs.Common.{◌≡◌, ℕ, Bool, true, false, List, [], refl, ap, ◌||◌, ◌&&◌, Option, Some, eqb, arith}
use Rattle.std.specs.List.{flat_map}
use Rattle.cr_base.specs.declared.entry.Entry.{Entry}
use Rattle.cr_base.specs.declared.entry.Entry.TheVariants.{Responded}
use Rattle.cr_base.specs.declared.entry.Stamp.{Stamp}
use Rattle.cr_base.specs.declared.entry.Stamped.{Stamped}
use Rattle.cr_base.specs.declared.standing.Standing.{Standing}
use Rattle.cr_base.specs.Drawn.{stamped}
use Rattle.cr_base.specs.History.{History, response_told}
use Rattle.cr_base.specs.HistoryFacts.{standing_of, response_of}
use Rattle.cr_base.specs.Lists.{last}
use Rattle.cr_base.specs.Page.{is_clear_member}
use Rattle.cr_base.specs.Phases.{members_read_responses}
use Rattle.cr_policy.specs.Part as part
use Rattle.cr_policy.specs.Triggers.{Reader, reader, Around, user_named}
use Rattle.cr_policy.specs.View.{view, sight}
use Rattle.cr_policy.specs.ViewFacts.{only, response_seen, response_in_view}
use Rattle.cr_policy.proofs.Tells.{passes, paper_value, told_where, silent, of_paper}
use Rattle.cr_policy.proofs.Walk.{Tells, fold_all}

-- who is told what a paper's authors responded: they, and from the discussion on members in no conflict with it
abbrev pub is_told_response : Standing → Bool
is_told_response by = by.author || (is_clear_member by && members_read_responses by.phase)

module _ (r : Reader) (at : Around) (stamp : Stamp) (more : Bool) where
  response_at : (p : ℕ) (e : Entry) → flat_map (response_seen p) (sight r at (stamped stamp more e))
      ≡ only (passes part.text r at (stamped stamp more e)) (response_told p e)
  response_at p (Responded paper text) =
      told_where r at stamp more (response_seen p) part.text (Responded paper text)
      (response_told p (Responded paper text))
      (paper_value (eqb paper p) _ text)
  response_at p e = silent r at stamp more (response_seen p) e refl

response_tells : (r : Reader) (p : ℕ) → Tells r (response_seen p) (λ (e : Stamped). response_told p e.entry)
    (passes part.text r)
response_tells r p at e = response_at r at e.stamp e.more p e.entry

-- where each response to the paper's reviews is shown, what is told of them is kept
response_kept : (r : Reader) (at : Around) (p : ℕ)
    → ((stamp : Stamp) (more : Bool) (text : List ℕ) → passes part.text r at (stamped stamp more (Responded p text))
    ≡ true)
    → (e : Stamped) → only (passes part.text r at e) (response_told p e.entry) ≡ response_told p e.entry
response_kept r at p shown e = by e.stamp e.more e.entry
  where
    by : (stamp : Stamp) (more : Bool) (e : Entry)
        → only (passes part.text r at (stamped stamp more e)) (response_told p e) ≡ response_told p e
    by stamp more (Responded paper text) =
        of_paper (λ n. passes part.text r at (stamped stamp more (Responded n text))) paper p text
        (shown stamp more text)
    by stamp more e = refl

pub response-seen : (u : Option ℕ) (p : ℕ) (H : History) → is_told_response (standing_of u (Some p) H) ≡ true
    → response_in_view p (view u H) ≡ response_of p H
response-seen u p H told =
    ap last
    (fold_all r (response_seen p) (λ (e : Stamped). response_told p e.entry) (passes part.text r) (response_tells r p)
    (λ at e. response_kept r at p (λ stamp more text.
    shown by.author (is_clear_member by && members_read_responses by.phase) (user_named r stamp.maker) told) e) [] H)
  where
    r : Reader
    r = reader u H

    by : Standing
    by = standing_of u (Some p) H

    shown : (a d own : Bool) → (a || d) ≡ true → (a || (d || (own || false))) ≡ true
    shown a d own h = grind (arith, h)
