-- SPDX-License-Identifier: Apache-2.0 OR MIT
-- What each entry shows of bids and of reviewers, and what is kept of that.
use Rattle.std.proofs.Common.{◌≡◌, ℕ, Bool, true, false, [], ◌∷◌, refl, sym, ap, subst, ◌∙◌, ◌&&◌, Option, Some, None}
use Rattle.std.proofs.Common.{eqb}
use Rattle.std.specs.Prelude.{map}
use Rattle.std.specs.List.{flat_map}
use Rattle.std.proofs.lemmas.Bool.{eqb-true, and_parts, or_left, or_right}
use Rattle.cr_base.specs.declared.entry.Entry.{Entry}
use Rattle.cr_base.specs.declared.entry.Entry.TheVariants.{Bid, Assigned, Unassigned}
use Rattle.cr_base.specs.declared.entry.Stamp.{Stamp}
use Rattle.cr_base.specs.declared.entry.Stamped.{Stamped}
use Rattle.cr_base.specs.declared.words.Kind.{Kind}
use Rattle.cr_base.specs.Lists.{given, listed, is_number}
use Rattle.cr_base.specs.Drawn.{stamped}
use Rattle.cr_base.specs.History.{SeatTold, bid_told, ordinal_told, assigned_told, unassigned_told}
use Rattle.cr_policy.specs.Part as part
use Rattle.cr_policy.specs.Sighting.{Sighting, where_shown}
use Rattle.cr_policy.specs.Triggers.{Reader, Around}
use Rattle.cr_policy.specs.View.{sight, is_seen, joined}
use Rattle.cr_policy.specs.ViewFacts.{only, bid_seen, own_bid_seen, ordinal_seen, assigned_seen, unassigned_seen}
use Rattle.cr_policy.proofs.Walk.{only-false, flat_map-given, Tells, TellsAll}
use Rattle.cr_policy.proofs.Tells.{passes, passes_both, paper_value, own_value, pair_value, seen_where, silent}
use Rattle.cr_policy.proofs.Tells.{told_where, told_both, shown_value, of_paper}

-- ---- bids and seats of a user

module _ (r : Reader) (at : Around) (stamp : Stamp) (more : Bool) where
  bid_at : (u : Option ℕ) (p : ℕ) (e : Entry)
      → flat_map (bid_seen u p) (sight r at (stamped stamp more e))
      ≡ only (passes_both part.by part.value r at (stamped stamp more e)) (bid_told u p stamp.maker e)
  bid_at u p (Bid paper value) =
      told_both r at stamp more (bid_seen u p) part.by part.value (Bid paper value)
      (bid_told u p stamp.maker (Bid paper value))
      (pair_value (eqb paper p) _ _ u stamp.maker value (λ b. listed (where_shown b (Some value))) refl refl)
  bid_at u p e = silent r at stamp more (bid_seen u p) e refl

  own_bid_at : (p : ℕ) (e : Entry) → flat_map (own_bid_seen p) (sight r at (stamped stamp more e))
      ≡ bid_told r.number p stamp.maker e
  own_bid_at p (Bid paper value) =
      flat_map-given (own_bid_seen p) (is_seen r at (stamped stamp more (Bid paper value)))
      (joined r at (stamped stamp more (Bid paper value)))
      ∙ own_value (is_seen r at (stamped stamp more (Bid paper value))) (eqb paper p) (is_number r.number stamp.maker)
      value _
      (λ own. ap (λ b. listed (where_shown b (Some value))) (hers own)) hers
    where
      hers : is_number r.number stamp.maker ≡ true → is_seen r at (stamped stamp more (Bid paper value)) ≡ true
      hers own = or_right _ _ (or_left (is_number r.number stamp.maker) false own)
  own_bid_at p e = silent r at stamp more (own_bid_seen p) e refl

  ordinal_at : (u : Option ℕ) (p : ℕ) (e : Entry)
      → flat_map (ordinal_seen u p) (sight r at (stamped stamp more e))
      ≡ only (passes_both part.user part.ordinal r at (stamped stamp more e)) (ordinal_told u p e)
  ordinal_at u p (Assigned paper user kind ordinal) =
      told_both r at stamp more (ordinal_seen u p) part.user part.ordinal (Assigned paper user kind ordinal)
      (ordinal_told u p (Assigned paper user kind ordinal))
      (pair_value (eqb paper p) _ _ u user (Some ordinal)
      (λ b. map (λ (o : ℕ). Some o) (listed (where_shown b (Some ordinal)))) refl refl)
  ordinal_at u p (Unassigned paper user ordinal) =
      told_both r at stamp more (ordinal_seen u p) part.user part.ordinal (Unassigned paper user ordinal)
      (ordinal_told u p (Unassigned paper user ordinal))
      (pair_value (eqb paper p) _ _ u user None (λ b. map (λ (o : ℕ). None) (listed (where_shown b (Some ordinal))))
      refl refl)
  ordinal_at u p e = silent r at stamp more (ordinal_seen u p) e refl

  unassigned_at : (p : ℕ) (e : Entry)
      → flat_map (unassigned_seen p) (sight r at (stamped stamp more e))
      ≡ only (passes part.ordinal r at (stamped stamp more e)) (unassigned_told p e)
  unassigned_at p (Unassigned paper user ordinal) =
      told_where r at stamp more (unassigned_seen p) part.ordinal (Unassigned paper user ordinal)
      (unassigned_told p (Unassigned paper user ordinal))
      (paper_value (eqb paper p) _ ordinal)
  unassigned_at p e = silent r at stamp more (unassigned_seen p) e refl

pub bid_tells : (r : Reader) (u : Option ℕ) (p : ℕ)
    → Tells r (bid_seen u p) (λ (e : Stamped). bid_told u p e.stamp.maker e.entry) (passes_both part.by part.value r)
bid_tells r u p at e = bid_at r at e.stamp e.more u p e.entry

pub own_bid_tells : (r : Reader) (p : ℕ)
    → TellsAll r (own_bid_seen p) (λ (e : Stamped). bid_told r.number p e.stamp.maker e.entry)
own_bid_tells r p at e = own_bid_at r at e.stamp e.more p e.entry

pub seat_tells : (r : Reader) (u : Option ℕ) (p : ℕ)
    → Tells r (ordinal_seen u p) (λ (e : Stamped). ordinal_told u p e.entry) (passes_both part.user part.ordinal r)
seat_tells r u p at e = ordinal_at r at e.stamp e.more u p e.entry

pub unassigned_tells : (r : Reader) (p : ℕ)
    → Tells r (unassigned_seen p) (λ (e : Stamped). unassigned_told p e.entry) (passes part.ordinal r)
unassigned_tells r p at e = unassigned_at r at e.stamp e.more p e.entry

-- ---- who is shown them

-- whoever made it, each bid on the paper shows whose it is
abbrev pub ShowsBid : Reader → Around → ℕ → Type 0
ShowsBid r at p = (stamp : Stamp) (more : Bool) (value : ℕ)
    → passes_both part.by part.value r at (stamped stamp more (Bid p value)) ≡ true

-- each entry that assigns the user to the paper, or takes her off it, shows who she is, and her label
pub record ShowsSeat (r : Reader) (at : Around) (u : Option ℕ) (p : ℕ) : Type 0 where
  pub assigned : (stamp : Stamp) (more : Bool) (user : ℕ) (kind : Kind) (ordinal : ℕ) → is_number u user ≡ true
      → passes_both part.user part.ordinal r at (stamped stamp more (Assigned p user kind ordinal)) ≡ true
  pub unassigned : (stamp : Stamp) (more : Bool) (user ordinal : ℕ) → is_number u user ≡ true
      → passes_both part.user part.ordinal r at (stamped stamp more (Unassigned p user ordinal)) ≡ true

-- each that takes somebody off the paper shows her label
abbrev pub ShowsUnassigned : Reader → Around → ℕ → Type 0
ShowsUnassigned r at p = (stamp : Stamp) (more : Bool) (user ordinal : ℕ)
    → passes part.ordinal r at (stamped stamp more (Unassigned p user ordinal)) ≡ true

-- a value that is told of a user and of paper p is kept, where such an entry on p passes
of_pair : {A : Type 0} (passing : ℕ → Bool) (paper p : ℕ) (hers : Bool) (x : A) → (hers ≡ true → passing p ≡ true)
    → only (passing paper) (given (eqb paper p && hers) x) ≡ given (eqb paper p && hers) x
of_pair passing paper p hers x h =
    shown_value (passing paper) (eqb paper p && hers) x (λ same.
    let parts = and_parts (eqb paper p) hers same in
    ap passing (eqb-true paper p parts.0) ∙ h parts.1)

module _ (r : Reader) (at : Around) (u : Option ℕ) (p : ℕ) where
  bid_kept : ShowsBid r at p → (stamp : Stamp) (more : Bool) (e : Entry)
      → only (passes_both part.by part.value r at (stamped stamp more e)) (bid_told u p stamp.maker e)
      ≡ bid_told u p stamp.maker e
  bid_kept shown stamp more (Bid paper value) =
      of_pair (λ n. passes_both part.by part.value r at (stamped stamp more (Bid n value))) paper p
      (is_number u stamp.maker) value (λ _. shown stamp more value)
  bid_kept shown stamp more e = refl

  seat_kept : ShowsSeat r at u p → (stamp : Stamp) (more : Bool) (e : Entry)
      → only (passes_both part.user part.ordinal r at (stamped stamp more e)) (ordinal_told u p e) ≡ ordinal_told u p e
  seat_kept shown stamp more (Assigned paper user kind ordinal) =
      of_pair (λ n. passes_both part.user part.ordinal r at (stamped stamp more (Assigned n user kind ordinal))) paper p
      (is_number u user) (Some ordinal)
      (shown.assigned stamp more user kind ordinal)
  seat_kept shown stamp more (Unassigned paper user ordinal) =
      of_pair (λ n. passes_both part.user part.ordinal r at (stamped stamp more (Unassigned n user ordinal))) paper p
      (is_number u user) None
      (shown.unassigned stamp more user ordinal)
  seat_kept shown stamp more e = refl

  unassigned_kept : ShowsUnassigned r at p → (stamp : Stamp) (more : Bool) (e : Entry)
      → only (passes part.ordinal r at (stamped stamp more e)) (unassigned_told p e) ≡ unassigned_told p e
  unassigned_kept shown stamp more (Unassigned paper user ordinal) =
      of_paper (λ n. passes part.ordinal r at (stamped stamp more (Unassigned n user ordinal))) paper p ordinal
      (shown stamp more user ordinal)
  unassigned_kept shown stamp more e = refl

  pub bid_value : ShowsBid r at p → (e : Stamped)
      → only (passes_both part.by part.value r at e) (bid_told u p e.stamp.maker e.entry) ≡ bid_told u p e.stamp.maker
      e.entry
  bid_value shown e = bid_kept shown e.stamp e.more e.entry

  pub seat_value : ShowsSeat r at u p → (e : Stamped)
      → only (passes_both part.user part.ordinal r at e) (ordinal_told u p e.entry) ≡ ordinal_told u p e.entry
  seat_value shown e = seat_kept shown e.stamp e.more e.entry

  pub unassigned_value : ShowsUnassigned r at p → (e : Stamped)
      → only (passes part.ordinal r at e) (unassigned_told p e.entry) ≡ unassigned_told p e.entry
  unassigned_value shown e = unassigned_kept shown e.stamp e.more e.entry

-- ---- reviewers of a paper, as some are told them

module _ {B : Type 0} (m : SeatTold → B) (r : Reader) (at : Around) where
  -- what each entry that assigns somebody to the paper shows is as good as what it tells, for one who is told it so:
  -- the label is there
  abbrev pub ShowsAssigned : ℕ → Type 0
  ShowsAssigned p =
      (stamp : Stamp) (more : Bool) (user : ℕ) (kind : Kind) (ordinal : ℕ)
      → (passes part.ordinal r at (stamped stamp more (Assigned p user kind ordinal)) ≡ true)
      × (m (record {
        ordinal = ordinal;
        kind =
            where_shown (passes part.review_kind r at (stamped stamp more (Assigned p user kind ordinal))) (Some kind);
        user = where_shown (passes part.user r at (stamped stamp more (Assigned p user kind ordinal))) (Some user);
      }) ≡ m (record { ordinal = ordinal; kind = Some kind; user = Some user }))

  seat_told_so : (same seen c : Bool) (ordinal : ℕ) (shown told : ℕ → SeatTold)
      → (same ≡ true → (seen ≡ true) × (c ≡ true) × (m (shown ordinal) ≡ m (told ordinal)))
      → only seen (map m (only same (map shown (listed (where_shown c (Some ordinal))))))
      ≡ map m (given same (told ordinal))
  seat_told_so true seen c ordinal shown told h =
      let parts = h refl in
      ap (λ b. only b (map m (only true (map shown (listed (where_shown c (Some ordinal))))))) parts.0
      ∙ ap (λ b. only true (map m (only true (map shown (listed (where_shown b (Some ordinal))))))) parts.1
      ∙ ap (λ x. x ∷ []) parts.2
  seat_told_so false seen c ordinal shown told h =
      ap (λ xs. only seen (map m xs)) (only-false (map shown (listed (where_shown c (Some ordinal)))))

  assigned_at : (p : ℕ) → ShowsAssigned p → (stamp : Stamp) (more : Bool) (e : Entry)
      → flat_map (λ (s : Sighting). map m (assigned_seen p s)) (sight r at (stamped stamp more e))
      ≡ map m (assigned_told p e)
  assigned_at p shown stamp more (Assigned paper user kind ordinal) =
      let e : Stamped = stamped stamp more (Assigned paper user kind ordinal) in
      flat_map-given (λ (s : Sighting). map m (assigned_seen p s)) (is_seen r at e) (joined r at e)
      ∙ seat_told_so (eqb paper p) (is_seen r at e) (passes part.ordinal r at e) ordinal
      (λ (o : ℕ). record {
        ordinal = o;
        kind = where_shown (passes part.review_kind r at e) (Some kind);
        user = where_shown (passes part.user r at e) (Some user);
      })
      (λ (o : ℕ). record { ordinal = o; kind = Some kind; user = Some user })
      (λ same.
      let hers = subst (λ (n : ℕ). ShowsAssigned n) (sym (eqb-true paper p same)) shown stamp more user kind ordinal in
      (seen_where r at part.ordinal e hers.0, hers.0, hers.1))
  assigned_at p shown stamp more e = silent r at stamp more (λ (s : Sighting). map m (assigned_seen p s)) e refl

pub assigned_tells : {B : Type 0} (m : SeatTold → B) (r : Reader) (p : ℕ) → ((at : Around) → ShowsAssigned m r at p)
    → TellsAll r (λ (s : Sighting). map m (assigned_seen p s)) (λ (e : Stamped). map m (assigned_told p e.entry))
assigned_tells m r p shown at e = assigned_at m r at p (shown at) e.stamp e.more e.entry
