-- SPDX-License-Identifier: Apache-2.0 OR MIT
-- At the paper each of the two stands as the other did, and everything else is as before.
use Rattle.std.proofs.Common.{ℕ, Bool, true, false, cond, ◌≡◌, ◌+◌, List, [], ◌∷◌, ◌++◌, length, refl, sym, ap, ◌∙◌}
use Rattle.std.proofs.Common.{Option, Some, None, length-append, eqb, arith, ◌&&◌}
use Rattle.std.specs.Prelude.{map}
use Rattle.std.specs.Option.{option_map}
use Rattle.std.proofs.lemmas.Bool.{eqb-true}
use Rattle.std.proofs.lemmas.Bool.Decides.{nat_tests}
use Rattle.cr_base.specs.declared.entry.Entry.{Entry}
use Rattle.cr_base.specs.declared.entry.Entry.TheVariants as entries
use Rattle.cr_base.specs.declared.entry.Stamp.{Stamp}
use Rattle.cr_base.specs.declared.words.Phase.{Phase}
use Rattle.cr_base.specs.declared.words.Phase.TheVariants.{Setup}
use Rattle.cr_base.specs.declared.words.Role.TheVariants.{Account}
use Rattle.cr_base.specs.Calls.{stamp_by}
use Rattle.cr_base.specs.History.{History, Registration, all_told, all_told_by, phase_told, deadline_told, paper_told}
use Rattle.cr_base.specs.History.{own_paper_told, author_told, conflict_told, ordinal_told, invite_told, assigned_told}
use Rattle.cr_base.specs.History.{form_told, comment_told, response_told, upload_told, own_bytes_told}
use Rattle.cr_base.specs.History.{withdrawal_told, registration_told, role_told, number_told, decision_told}
use Rattle.cr_base.specs.HistoryFacts.{phase_of, deadline_of, role_of, papers_of, number_of, authors_of}
use Rattle.cr_base.specs.HistoryFacts.{is_conflict_on, ordinal_of, is_invited, is_withdrawn, accounts_of, seats_of}
use Rattle.cr_base.specs.HistoryFacts.{forms_of, own_papers_of, own_bytes_of, response_of, uploads_of, comments_of}
use Rattle.cr_base.specs.HistoryFacts.{decision_of}
use Rattle.cr_base.specs.Lists.{given, is_number, last, last_or, total}
use Rattle.cr_undeduced.specs.Makers.{stamp_of}
use Rattle.cr_undeduced.specs.Twins.{Twins, placed, twin_entry, twin_maker, twinned}

-- the maker of a stamp that may change hands
pub maker-is : (w : ℕ) (stamp : Stamp) → (stamp_of w stamp).maker ≡ w
maker-is w stamp = by (eqb w stamp.maker) refl
  where
    by : (b : Bool) → eqb w stamp.maker ≡ b → (cond b stamp (stamp_by w stamp.at None)).maker ≡ w
    by true same = sym (eqb-true w stamp.maker same)
    by false other = refl

module _ (t : Twins) where
  -- ---- the two are told apart as before

  swapped-eqb : (x y v w : ℕ) → eqb (cond (eqb v x) y (cond (eqb v y) x v)) (cond (eqb w x) y (cond (eqb w y) x w)) ≡ eqb v w
  swapped-eqb x y v w = by (eqb v x) refl (eqb v y) refl (eqb w x) refl (eqb w y) refl
    where
      by : (vx : Bool) → eqb v x ≡ vx → (vy : Bool) → eqb v y ≡ vy → (wx : Bool) → eqb w x ≡ wx
          → (wy : Bool) → eqb w y ≡ wy
          → eqb (cond vx y (cond vy x v)) (cond wx y (cond wy x w)) ≡ eqb v w
      by true a vy b true c wy d = grind (arith, nat_tests)
      by true a vy b false c true d = grind (arith, nat_tests)
      by true a vy b false c false d = grind (arith, nat_tests)
      by false a true b true c wy d = grind (arith, nat_tests)
      by false a true b false c true d = grind (arith, nat_tests)
      by false a true b false c false d = grind (arith, nat_tests)
      by false a false b true c wy d = grind (arith, nat_tests)
      by false a false b false c true d = grind (arith, nat_tests)
      by false a false b false c false d = refl

  pub placed-eqb : (p v w : ℕ) → eqb (placed t p v) (placed t p w) ≡ eqb v w
  placed-eqb p v w = by (eqb p t.paper)
    where
      by : (b : Bool)
          → eqb (cond b (cond (eqb v t.one) t.other (cond (eqb v t.other) t.one v)) v)
          (cond b (cond (eqb w t.one) t.other (cond (eqb w t.other) t.one w)) w) ≡ eqb v w
      by true = swapped-eqb t.one t.other v w
      by false = refl

  -- a user, who may be nobody
  abbrev pub placed_of : ℕ → Option ℕ → Option ℕ
  placed_of p u = option_map (placed t p) u

  placed-number : (p : ℕ) (u : Option ℕ) (w : ℕ) → is_number (placed_of p u) (placed t p w) ≡ is_number u w
  placed-number p None w = refl
  placed-number p (Some v) w = placed-eqb p v w

  -- at this paper, where the entry is on it
  here : (p q : ℕ) (u : Option ℕ) (w : ℕ)
      → (eqb q p && is_number (placed_of p u) (placed t q w)) ≡ (eqb q p && is_number u w)
  here p q u w = by (eqb q p) refl
    where
      by : (b : Bool) → eqb q p ≡ b → (b && is_number (placed_of p u) (placed t q w)) ≡ (b && is_number u w)
      by true same =
          ap (λ r. is_number (placed_of p u) (placed t r w)) (eqb-true q p same)
          ∙ placed-number p u w
      by false other = refl

  -- ---- what is told place by place

  module _ {A : Type 0} (told told' : ℕ → Entry → List A) where
    abbrev Turned : Type 0
    Turned = (m : ℕ) (e : Entry) → told' (twin_maker t m e) (twin_entry t e) ≡ told m e

    pub told-twinned : Turned → (H : History) → all_told_by told' (twinned t H) ≡ all_told_by told H
    told-twinned each [] = refl
    told-twinned each (e ∷ H) =
        λ i. (ap (λ m. told' m (twin_entry t e.entry)) (maker-is (twin_maker t e.stamp.maker e.entry) e.stamp)
        ∙ each e.stamp.maker e.entry) i ++ told-twinned each H i

    abbrev AsMany : Type 0
    AsMany = (m : ℕ) (e : Entry) → length (told' (twin_maker t m e) (twin_entry t e)) ≡ length (told m e)

    pub count-twinned : AsMany → (H : History)
        → length (all_told_by told' (twinned t H)) ≡ length (all_told_by told H)
    count-twinned each [] = refl
    count-twinned each (e ∷ H) =
        length-append (told' (stamp_of (twin_maker t e.stamp.maker e.entry) e.stamp).maker (twin_entry t e.entry))
        (all_told_by told' (twinned t H))
        ∙ (λ i. (ap (λ m. length (told' m (twin_entry t e.entry)))
        (maker-is (twin_maker t e.stamp.maker e.entry) e.stamp) ∙ each e.stamp.maker e.entry) i
        + count-twinned each H i)
        ∙ sym (length-append (told e.stamp.maker e.entry) (all_told_by told H))

  -- ---- of one entry: what stays

  abbrev Stays : {A : Type 0} → (ℕ → Entry → List A) → Type 0
  Stays told = Turned told told

  phase-stays : Stays (λ m e. phase_told e)
  phase-stays m (entries.PhaseSet phase) = refl
  phase-stays m e = refl

  deadline-stays : (phase : Phase) → Stays (λ m e. deadline_told phase e)
  deadline-stays phase m (entries.DeadlineSet set until) = refl
  deadline-stays phase m e = refl

  role-stays : (u : Option ℕ) → Stays (λ m e. role_told u e)
  role-stays u m (entries.Named user role) = refl
  role-stays u m e = refl

  paper-stays : Stays (λ m e. paper_told e)
  paper-stays m (entries.Submitted paper title abstract) = refl
  paper-stays m e = refl

  number-stays : (name : List ℕ) → Stays (λ m e. number_told name e)
  number-stays name m (entries.Registered user own digest) = refl
  number-stays name m e = refl

  registration-stays : Stays (λ m e. registration_told e)
  registration-stays m (entries.Registered user name digest) = refl
  registration-stays m e = refl

  author-stays : (p : ℕ) → Stays (author_told p)
  author-stays p m (entries.Submitted paper title abstract) = refl
  author-stays p m e = refl

  withdrawal-stays : (p : ℕ) → Stays (λ m e. withdrawal_told p e)
  withdrawal-stays p m (entries.Withdrawn paper) = refl
  withdrawal-stays p m e = refl

  decision-stays : (p : ℕ) → Stays (λ m e. decision_told p e)
  decision-stays p m (entries.Decided paper decision) = refl
  decision-stays p m e = refl

  form-stays : (p o : ℕ) → Stays (λ m e. form_told p o e)
  form-stays p o m (entries.Reviewed paper ordinal version form) = refl
  form-stays p o m e = refl

  own_paper-stays : (u : Option ℕ) → Stays (own_paper_told u)
  own_paper-stays u m (entries.Submitted paper title abstract) = refl
  own_paper-stays u m e = refl

  own_bytes-stays : (u : Option ℕ) → Stays (own_bytes_told u)
  own_bytes-stays u m (entries.Uploaded paper version content) = refl
  own_bytes-stays u m e = refl

  response-stays : (p : ℕ) → Stays (λ m e. response_told p e)
  response-stays p m (entries.Responded paper text) = refl
  response-stays p m e = refl

  upload-stays : (p : ℕ) → Stays (λ m e. upload_told p e)
  upload-stays p m (entries.Uploaded paper version content) = refl
  upload-stays p m e = refl

  -- how many there are

  given-many : {A : Type 0} (b : Bool) (x y : A) → length (given b x) ≡ length (given b y)
  given-many true x y = refl
  given-many false x y = refl

  labels-many : (p : ℕ) → AsMany (λ m e. assigned_told p e) (λ m e. assigned_told p e)
  labels-many p m (entries.Assigned paper user kind ordinal) = given-many _ _ _
  labels-many p m e = refl

  comments-many : (p : ℕ) → AsMany (comment_told p) (comment_told p)
  comments-many p m (entries.Commented paper n ordinal text) = given-many _ _ _
  comments-many p m e = refl

  -- and what turns with the two

  conflict-turns : (u : Option ℕ) (p : ℕ) → Turned (λ m e. conflict_told u p e) (λ m e. conflict_told (placed_of p u) p e)
  conflict-turns u p m (entries.Conflict paper user on) = ap (λ b. given b on) (here p paper u user)
  conflict-turns u p m e = refl

  ordinal-turns : (u : Option ℕ) (p : ℕ) → Turned (λ m e. ordinal_told u p e) (λ m e. ordinal_told (placed_of p u) p e)
  ordinal-turns u p m (entries.Assigned paper user kind ordinal) = ap (λ b. given b (Some ordinal)) (here p paper u user)
  ordinal-turns u p m (entries.Unassigned paper user ordinal) = ap (λ b. given b None) (here p paper u user)
  ordinal-turns u p m e = refl

  invite-turns : (u : Option ℕ) (p : ℕ) → Turned (λ m e. invite_told u p e) (λ m e. invite_told (placed_of p u) p e)
  invite-turns u p m (entries.Invited paper user) = ap (λ b. given b true) (here p paper u user)
  invite-turns u p m (entries.Uninvited paper user) = ap (λ b. given b false) (here p paper u user)
  invite-turns u p m e = refl

  -- ---- the facts

  module _ (H : History) where
    abbrev H' : History
    H' = twinned t H

    stay : {A : Type 0} (told : ℕ → Entry → List A) → Stays told → all_told_by told H' ≡ all_told_by told H
    stay told each = told-twinned told told each H

    pub phase-twin : phase_of H' ≡ phase_of H
    phase-twin = ap (last_or Setup) (stay (λ m e. phase_told e) phase-stays)

    pub deadline-twin : (phase : Phase) → deadline_of phase H' ≡ deadline_of phase H
    deadline-twin phase = ap (last_or None) (stay (λ m e. deadline_told phase e) (deadline-stays phase))

    pub role-twin : (u : Option ℕ) → role_of u H' ≡ role_of u H
    role-twin u = ap (last_or Account) (stay (λ m e. role_told u e) (role-stays u))

    pub papers-twin : papers_of H' ≡ papers_of H
    papers-twin = stay (λ m e. paper_told e) paper-stays

    pub number-twin : (name : List ℕ) → number_of name H' ≡ number_of name H
    number-twin name = ap last (stay (λ m e. number_told name e) (number-stays name))

    pub registered-twin : all_told registration_told H' ≡ all_told registration_told H
    registered-twin = stay (λ m e. registration_told e) registration-stays

    pub accounts-twin : accounts_of H' ≡ accounts_of H
    accounts-twin = λ i. map
        (λ (r : Registration). record { user = r.user; name = r.name; role = role-twin (Some r.user) i })
        (registered-twin i)

    pub authors-twin : (p : ℕ) → authors_of p H' ≡ authors_of p H
    authors-twin p = stay (author_told p) (author-stays p)

    pub withdrawn-twin : (p : ℕ) → is_withdrawn p H' ≡ is_withdrawn p H
    withdrawn-twin p = ap (last_or false) (stay (λ m e. withdrawal_told p e) (withdrawal-stays p))

    pub decision-twin : (p : ℕ) → decision_of p H' ≡ decision_of p H
    decision-twin p = ap last (stay (λ m e. decision_told p e) (decision-stays p))

    pub forms-twin : (p o : ℕ) → forms_of p o H' ≡ forms_of p o H
    forms-twin p o = stay (λ m e. form_told p o e) (form-stays p o)

    pub own_papers-twin : (u : Option ℕ) → own_papers_of u H' ≡ own_papers_of u H
    own_papers-twin u = ap length (stay (own_paper_told u) (own_paper-stays u))

    pub own_bytes-twin : (u : Option ℕ) → own_bytes_of u H' ≡ own_bytes_of u H
    own_bytes-twin u = ap total (stay (own_bytes_told u) (own_bytes-stays u))

    pub response-twin : (p : ℕ) → response_of p H' ≡ response_of p H
    response-twin p = ap last (stay (λ m e. response_told p e) (response-stays p))

    pub uploads-twin : (p : ℕ) → uploads_of p H' ≡ uploads_of p H
    uploads-twin p = stay (λ m e. upload_told p e) (upload-stays p)

    pub labels-twin : (p : ℕ) → length (seats_of p H') ≡ length (seats_of p H)
    labels-twin p = count-twinned (λ m e. assigned_told p e) (λ m e. assigned_told p e) (labels-many p) H

    pub comments-twin : (p : ℕ) → length (comments_of p H') ≡ length (comments_of p H)
    comments-twin p = count-twinned (comment_told p) (comment_told p) (comments-many p) H

    pub conflict-twin : (u : Option ℕ) (p : ℕ) → is_conflict_on (placed_of p u) p H' ≡ is_conflict_on u p H
    conflict-twin u p =
        ap (last_or false) (told-twinned (λ m e. conflict_told u p e) (λ m e. conflict_told (placed_of p u) p e)
        (conflict-turns u p) H)

    pub ordinal-twin : (u : Option ℕ) (p : ℕ) → ordinal_of (placed_of p u) p H' ≡ ordinal_of u p H
    ordinal-twin u p =
        ap (last_or None) (told-twinned (λ m e. ordinal_told u p e) (λ m e. ordinal_told (placed_of p u) p e)
        (ordinal-turns u p) H)

    pub invited-twin : (u : Option ℕ) (p : ℕ) → is_invited (placed_of p u) p H' ≡ is_invited u p H
    invited-twin u p =
        ap (last_or false) (told-twinned (λ m e. invite_told u p e) (λ m e. invite_told (placed_of p u) p e)
        (invite-turns u p) H)
