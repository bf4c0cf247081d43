-- SPDX-License-Identifier: Apache-2.0 OR MIT
-- What the sightings of a view show in a part is what the facts of the view are made of.
use Rattle.std.proofs.Common.{◌≡◌, ℕ, Bool, true, false, List, [], ◌∷◌, ◌++◌, refl, sym, ap, ◌∙◌, ◌||◌, ◌&&◌, Option}
use Rattle.std.proofs.Common.{Some, None, eqb}
use Rattle.std.specs.Prelude.{All, map, unwrap_or, if◌then◌else◌}
use Rattle.std.specs.List.{flat_map}
use Rattle.std.proofs.lemmas.List.Elements.{All-head, All-tail}
use Rattle.std.proofs.Math.Bool.{or-true}
use Rattle.cr_base.specs.declared.entry.Entry.{Entry}
use Rattle.cr_base.specs.declared.entry.Entry.TheVariants.{Submitted, Coauthor, Revised, Uploaded, Conflict, Bid}
use Rattle.cr_base.specs.declared.entry.Entry.TheVariants.{Assigned, Unassigned, Reviewed, Tagged, Decided, Invited}
use Rattle.cr_base.specs.declared.entry.Entry.TheVariants.{Uninvited}
use Rattle.cr_base.specs.declared.entry.EntryKind.TheVariants as kinds
use Rattle.cr_base.specs.declared.entry.Stamp.{Stamp}
use Rattle.cr_base.specs.Lists.{listed, last_from, last_or, is_number}
use Rattle.cr_base.specs.History.{History, Upload}
use Rattle.cr_policy.specs.Sighting.{Sighting}
use Rattle.cr_policy.specs.View.{View, view}
use Rattle.cr_policy.specs.ViewFacts.{only, is_user, is_kind, title_seen, abstract_seen, author_seen, conflict_seen}
use Rattle.cr_policy.specs.ViewFacts.{ordinal_seen, own_bid_seen, bid_seen, accepted_seen, decision_seen, invite_seen}
use Rattle.cr_policy.specs.ViewFacts.{is_invited_in_view, upload_seen, withdrawal_seen, authors_in_view}
use Rattle.cr_policy.specs.ViewFacts.{is_conflict_on_in_view, ordinal_in_view, is_accepted_in_view, uploads_in_view}
use Rattle.cr_policy.specs.ViewFacts.{is_withdrawn_in_view, upload_shown}
use Rattle.cr_policy.proofs.Walk.{only-false, map-flat_map, last_from-append}
use Rattle.cr_bounds.specs.ShownTo.{where_known}
use Rattle.cr_bounds.proofs.BoundsWalk.{shown_to, each-view}
use Rattle.cr_told.specs.ToldPages.{shown_on, shown_by, is_shown, writers_shown, is_shown_in_conflict, label_shown_of}
use Rattle.cr_told.specs.ToldPages.{own_bids_shown, bids_shown_of, is_shown_accepted, writer_by, ordinal_by}
use Rattle.cr_told.specs.ToldPages.{invitation_by, is_shown_invited}

-- what two readings make of each sighting is the same, so it is of the view
pub flat_map-same : {X A : Type 0} (f g : X → List A) (xs : List X) → All (λ (x : X). f x ≡ g x) xs
    → flat_map f xs ≡ flat_map g xs
flat_map-same f g [] same = refl
flat_map-same {X} f g (x ∷ xs) same =
    let P : X → Type 0 = λ x. f x ≡ g x in
    ap (λ ys. ys ++ flat_map f xs) (All-head P x xs same)
    ∙ ap (λ ys. g x ++ ys) (flat_map-same f g xs (All-tail P x xs same))

only-neither : {A : Type 0} (b : Bool) (x : A) → only (b && false) (x ∷ []) ≡ []
only-neither true x = refl
only-neither false x = refl

module _ (u : Option ℕ) (p : ℕ) (H : History) where
  -- readings that make the same of each entry, as a user is shown it, make the same of her view
  pub readings : {A : Type 0} (f g : Sighting → List A)
      → ((before later : History) (stamp : Stamp) (e : Entry) → f (shown_to u H before later stamp e)
      ≡ g (shown_to u H before later stamp e))
      → flat_map f (view u H) ≡ flat_map g (view u H)
  readings f g same =
      flat_map-same f g (view u H) (each-view u H (λ (s : Sighting). f s ≡ g s)
      (λ before later stamp e told. same before later stamp e))

  pub titles : flat_map (title_seen p) (view u H) ≡ shown_on p (λ (s : Sighting). s.title) (view u H)
  titles = readings (title_seen p) (λ (s : Sighting). only (is_number s.paper p) (listed s.title)) one
    where
      one : (before later : History) (stamp : Stamp) (e : Entry)
          → title_seen p (shown_to u H before later stamp e)
          ≡ only (is_number (shown_to u H before later stamp e).paper p)
          (listed (shown_to u H before later stamp e).title)
      one before later stamp (Submitted paper title abstract) = refl
      one before later stamp (Revised paper title abstract) = refl
      one before later stamp e = refl

  pub abstracts : flat_map (abstract_seen p) (view u H) ≡ shown_on p (λ (s : Sighting). s.abstract) (view u H)
  abstracts = readings (abstract_seen p) (λ (s : Sighting). only (is_number s.paper p) (listed s.abstract)) one
    where
      one : (before later : History) (stamp : Stamp) (e : Entry)
          → abstract_seen p (shown_to u H before later stamp e)
          ≡ only (is_number (shown_to u H before later stamp e).paper p)
          (listed (shown_to u H before later stamp e).abstract)
      one before later stamp (Submitted paper title abstract) = refl
      one before later stamp (Revised paper title abstract) = refl
      one before later stamp e = refl

  pub writers : authors_in_view p (view u H) ≡ writers_shown p (view u H)
  writers =
      readings (author_seen p) (λ (s : Sighting). only (is_number s.paper p) (listed (writer_by s.kind s.by s.user)))
      one
    where
      one : (before later : History) (stamp : Stamp) (e : Entry)
          → author_seen p (shown_to u H before later stamp e)
          ≡ (let s : Sighting = shown_to u H before later stamp e in only (is_number s.paper p)
          (listed (writer_by s.kind s.by s.user)))
      one before later stamp (Submitted paper title abstract) = refl
      one before later stamp (Coauthor paper user) = refl
      one before later stamp e = refl

  pub in_conflict : (v : Option ℕ) → is_conflict_on_in_view v p (view u H) ≡ is_shown_in_conflict v p (view u H)
  in_conflict v =
      ap (last_or false) (readings (conflict_seen v p)
      (λ (s : Sighting). only (is_number s.paper p && is_user v s.user) (listed s.on)) one)
    where
      one : (before later : History) (stamp : Stamp) (e : Entry)
          → conflict_seen v p (shown_to u H before later stamp e)
          ≡ (let s : Sighting = shown_to u H before later stamp e in only (is_number s.paper p && is_user v s.user)
          (listed s.on))
      one before later stamp (Conflict paper user on) = refl
      one before later stamp (Tagged paper tag on) = sym (only-neither (eqb paper p) on)
      one before later stamp e = refl

  pub labels : (v : Option ℕ) → ordinal_in_view v p (view u H) ≡ label_shown_of v p (view u H)
  labels v =
      ap (last_or None) (readings (ordinal_seen v p)
      (λ (s : Sighting). only (is_number s.paper p && is_user v s.user) (listed (ordinal_by s.kind s.ordinal))) one)
    where
      one : (before later : History) (stamp : Stamp) (e : Entry)
          → ordinal_seen v p (shown_to u H before later stamp e)
          ≡ (let s : Sighting = shown_to u H before later stamp e in only (is_number s.paper p && is_user v s.user)
          (listed (ordinal_by s.kind s.ordinal)))
      one before later stamp (Assigned paper user review_kind ordinal) = refl
      one before later stamp (Unassigned paper user ordinal) = refl
      one before later stamp e = refl

  pub invites : (v : Option ℕ) → is_invited_in_view v p (view u H) ≡ is_shown_invited v p (view u H)
  invites v =
      ap (last_or false) (readings (invite_seen v p)
      (λ (s : Sighting). only (is_number s.paper p && is_user v s.user) (listed (invitation_by s.kind))) one)
    where
      one : (before later : History) (stamp : Stamp) (e : Entry)
          → invite_seen v p (shown_to u H before later stamp e)
          ≡ (let s : Sighting = shown_to u H before later stamp e in only (is_number s.paper p && is_user v s.user)
          (listed (invitation_by s.kind)))
      one before later stamp (Invited paper user) = refl
      one before later stamp (Uninvited paper user) = refl
      one before later stamp e = refl

  pub own_bids : flat_map (own_bid_seen p) (view u H) ≡ own_bids_shown p (view u H)
  own_bids = readings (own_bid_seen p) (λ (s : Sighting). only (is_number s.paper p && s.mine) (listed s.value)) one
    where
      one : (before later : History) (stamp : Stamp) (e : Entry)
          → own_bid_seen p (shown_to u H before later stamp e)
          ≡ (let s : Sighting = shown_to u H before later stamp e in only (is_number s.paper p && s.mine)
          (listed s.value))
      one before later stamp (Bid paper value) = refl
      one before later stamp e = refl

  pub bids : (v : ℕ) → flat_map (bid_seen (Some v) p) (view u H) ≡ bids_shown_of v p (view u H)
  bids v =
      readings (bid_seen (Some v) p) (λ (s : Sighting). only (is_number s.paper p && is_user (Some v) s.by)
      (listed s.value)) one
    where
      one : (before later : History) (stamp : Stamp) (e : Entry)
          → bid_seen (Some v) p (shown_to u H before later stamp e)
          ≡ (let s : Sighting = shown_to u H before later stamp e in only (is_number s.paper p && is_user (Some v) s.by)
          (listed s.value))
      one before later stamp (Bid paper value) = refl
      one before later stamp e = refl

  pub accepted : is_accepted_in_view p (view u H) ≡ is_shown_accepted p (view u H)
  accepted =
      ap (last_or false) (readings (accepted_seen p) (λ (s : Sighting). only (is_number s.paper p) (listed s.accepted))
      one)
    where
      one : (before later : History) (stamp : Stamp) (e : Entry)
          → accepted_seen p (shown_to u H before later stamp e)
          ≡ (let s : Sighting = shown_to u H before later stamp e in only (is_number s.paper p) (listed s.accepted))
      one before later stamp (Decided paper decision) = refl
      one before later stamp e = refl

  pub decisions : flat_map (decision_seen p) (view u H) ≡ shown_on p (λ (s : Sighting). s.decision) (view u H)
  decisions = readings (decision_seen p) (λ (s : Sighting). only (is_number s.paper p) (listed s.decision)) one
    where
      one : (before later : History) (stamp : Stamp) (e : Entry)
          → decision_seen p (shown_to u H before later stamp e)
          ≡ (let s : Sighting = shown_to u H before later stamp e in only (is_number s.paper p) (listed s.decision))
      one before later stamp (Decided paper decision) = refl
      one before later stamp e = refl

  -- a number and a content are shown together
  pub versions : map (λ (upload : Upload). upload.version) (uploads_in_view p (view u H)) ≡ shown_by kinds.Uploaded p
      (λ (s : Sighting). s.version) (view u H)
  versions =
      map-flat_map (λ (upload : Upload). upload.version) (upload_seen p) (view u H)
      ∙ readings (λ (s : Sighting). map (λ (upload : Upload). upload.version) (upload_seen p s))
      (λ (s : Sighting). only (is_kind kinds.Uploaded s && is_number s.paper p) (listed s.version)) one
    where
      both : (same known : Bool) (version : ℕ) (content : List ℕ)
          → map (λ (upload : Upload). upload.version)
          (only same (upload_shown (where_known known version) (where_known known content)))
          ≡ only same (listed (where_known known version))
      both true true version content = refl
      both true false version content = refl
      both false true version content = refl
      both false false version content = refl

      one : (before later : History) (stamp : Stamp) (e : Entry)
          → map (λ (upload : Upload). upload.version) (upload_seen p (shown_to u H before later stamp e))
          ≡ (let s : Sighting = shown_to u H before later stamp e in only
          (is_kind kinds.Uploaded s && is_number s.paper p) (listed s.version))
      one before later stamp (Uploaded paper version content) = both (eqb paper p) _ version content
      one before later stamp (Reviewed paper ordinal version form) = sym (only-false _)
      one before later stamp e = refl

  -- a withdrawal shows no more than itself
  pub withdrawn : is_withdrawn_in_view p (view u H) ≡ is_shown kinds.Withdrawn p (view u H)
  withdrawn = any None (view u H) ∙ or-no (is_shown kinds.Withdrawn p (view u H))
    where
      or-no : (b : Bool) → (unwrap_or None false || b) ≡ b
      or-no b = refl

      one : (o : Option Bool) (same kind rest : Bool) (later : Option Bool → Bool)
          → ((o : Option Bool) → later o ≡ (unwrap_or o false || rest))
          → later (last_from o (only same (if kind then true ∷ [] else [])))
          ≡ (unwrap_or o false || ((kind && same) || rest))
      one o true true rest later h = h (Some true) ∙ sym (or-true (unwrap_or o false))
      one o false true rest later h = h o
      one o true false rest later h = h o
      one o false false rest later h = h o

      any : (o : Option Bool) (V : View) → unwrap_or (last_from o (flat_map (withdrawal_seen p) V)) false
          ≡ (unwrap_or o false || is_shown kinds.Withdrawn p V)
      any o [] = or-false' (unwrap_or o false)
        where
          or-false' : (b : Bool) → b ≡ (b || false)
          or-false' true = refl
          or-false' false = refl
      any o (s ∷ V) =
          ap (λ (o : Option Bool). unwrap_or o false)
          (last_from-append o (withdrawal_seen p s) (flat_map (withdrawal_seen p) V))
          ∙ one o (is_number s.paper p) (is_kind kinds.Withdrawn s) (is_shown kinds.Withdrawn p V)
          (λ o. unwrap_or (last_from o (flat_map (withdrawal_seen p) V)) false) (λ o. any o V)
