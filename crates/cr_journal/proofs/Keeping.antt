-- SPDX-License-Identifier: Apache-2.0 OR MIT
-- From payloads to the rows of groups.
use Rattle.std.proofs.Common.{◌≡◌, ◌⊎◌, inl, inr, Bool, true, false, ℕ, ◌+◌, List, [], ◌∷◌, ◌++◌, map, refl}
use Rattle.std.proofs.Common.{sym, ◌∙◌, ap, subst}
use Rattle.std.proofs.lemmas.List.{map_push}
use Rattle.cr_base.specs.declared.row.Row.{Row}
use Rattle.cr_ports.specs.Stopping.{IsAmong}
use Rattle.cr_journal.specs.Gates.{IsKeptOrOneMore, SameBut, SameTo}
use Rattle.cr_journal.specs.Grammar.{FitGroups, FitsGroup, IsJournal, payload}
use Rattle.cr_journal.specs.Keeping.{Keeps, OpensTo, rows_of}
use Rattle.cr_journal.specs.Standing.{Stands, doubted}
use Rattle.cr_journal.specs.declared.state.Journal.{Journal}
use Rattle.cr_journal.proofs.Calls.{shut_opens, may_opens}
use Rattle.cr_journal.proofs.Groups.{all-push, rows-push}
use Rattle.cr_journal.proofs.Whole.{not_both}

-- ---- what a file opens to

-- one of some payloads is that of one of the groups
record Of (tried : List (List Row)) (p : List ℕ) : Type 0 where
  group : List Row
  among : IsAmong tried group
  fits : FitsGroup group
  is : p ≡ payload group

of_group : (tried : List (List Row)) (p : List ℕ) → FitGroups tried → IsAmong (map payload tried) p → Of tried p
of_group [] p fit among = absurd among
of_group (g ∷ tried) p fit (inl is) = record { group = g; among = inl refl; fits = fit.0; is = is }
of_group (g ∷ tried) p fit (inr there) =
    let o = of_group tried p fit.1 there in
    record { group = o.group; among = inr o.among; fits = o.fits; is = o.is }

pub opens_of : (groups tried : List (List Row)) (c : List ℕ) → FitGroups groups → FitGroups tried
    → IsKeptOrOneMore (map payload groups) (map payload tried) c → OpensTo (rows_of groups) tried c
opens_of groups tried c fit fits (inl same) =
    inl (record { groups = groups; journal = record { fit = fit; journal = same }; rows_are = refl })
opens_of groups tried c fit fits (inr one) =
    let o = of_group tried one.0 fits one.1 in
    let more : map payload groups ++ one.0 ∷ [] ≡ map payload (groups ++ o.group ∷ []) =
    ap (λ (p : List ℕ). map payload groups ++ p ∷ []) o.is ∙ sym (map_push payload groups o.group) in
    inr (
      o.group,
      o.among,
      record {
        groups = groups ++ o.group ∷ [];
        journal = record {
          fit = all-push FitsGroup groups o.group fit o.fits;
          journal = subst (λ (ps : List (List ℕ)). IsJournal ps c) more one.2;
        };
        rows_are = rows-push groups o.group;
      },
    )

-- any more groups may have been tried
pub opens_wider : (rows : List Row) (few many : List (List Row)) (c : List ℕ)
    → ((g : List Row) → IsAmong few g → IsAmong many g)
    → OpensTo rows few c → OpensTo rows many c
opens_wider rows few many c wider (inl same) = inl same
opens_wider rows few many c wider (inr one) = inr (one.0, wider one.0 one.1, one.2)

-- of a group and of a list of groups
pub among_first : (group : List Row) (tried : List (List Row)) (g : List Row) → IsAmong (group ∷ []) g
    → IsAmong (group ∷ tried) g
among_first group tried g (inl is) = inl is
among_first group tried g (inr none) = absurd none

pub among_rest : (group : List Row) (tried : List (List Row)) (g : List Row) → IsAmong tried g
    → IsAmong (group ∷ tried) g
among_rest group tried g there = inr there

pub doubted_payload : (b : Bool) (d : List Row) → doubted b (payload d) ≡ map payload (doubted b d)
doubted_payload true d = refl
doubted_payload false d = refl

pub doubted_fits : (b : Bool) (d : List Row) → FitsGroup d → FitGroups (doubted b d)
doubted_fits true d fits = (fits, tt)
doubted_fits false d fits = tt

-- ---- what a keeper keeps

module _ {D : Type 0} (seen : D → List ℕ) (may_leave : D → List ℕ → Type 0) where
  stands_any : (journal : Journal D) (kept : List (List ℕ)) (p q : List ℕ) → journal.in_doubt ≡ false
      → Stands seen may_leave journal kept p → Stands seen may_leave journal kept q
  stands_any journal kept p q off s = record { shut = s.shut; doubt = λ on. not_both journal.in_doubt off on }

  -- a group was kept
  pub kept_more : (old new : Journal D) (rows doubt group empty : List Row) (k : Keeps seen may_leave old rows doubt)
      → new.in_doubt ≡ false → FitsGroup group → FitsGroup empty
      → Stands seen may_leave new (map payload k.groups ++ payload group ∷ []) (payload group)
      → Keeps seen may_leave new (rows ++ group) empty
  kept_more old new rows doubt group empty k off fits none s = record {
    groups = k.groups ++ group ∷ [];
    fit = all-push FitsGroup k.groups group k.fit fits;
    rows_are = rows-push k.groups group ∙ ap (λ (l : List Row). l ++ group) k.rows_are;
    doubt_fits = none;
    stands = stands_any new (map payload (k.groups ++ group ∷ [])) (payload group) (payload empty) off
        (subst (λ (ps : List (List ℕ)). Stands seen may_leave new ps (payload group))
        (sym (map_push payload k.groups group)) s);
  }

  -- none was, and this one may stand behind the gate
  pub kept_same : (old new : Journal D) (rows doubt group : List Row) (k : Keeps seen may_leave old rows doubt)
      → FitsGroup group
      → Stands seen may_leave new (map payload k.groups) (payload group) → Keeps seen may_leave new rows group
  kept_same old new rows doubt group k fits s =
      record { groups = k.groups; fit = k.fit; rows_are = k.rows_are; doubt_fits = fits; stands = s }

  -- nothing has changed but the gate's doubt
  pub kept_still : (old new : Journal D) (rows doubt : List Row) (k : Keeps seen may_leave old rows doubt)
      → Stands seen may_leave new (map payload k.groups) (payload doubt) → Keeps seen may_leave new rows doubt
  kept_still old new rows doubt k s =
      record { groups = k.groups; fit = k.fit; rows_are = k.rows_are; doubt_fits = k.doubt_fits; stands = s }

  -- what opens that is the file up to its gate and this, or but for its gate
  opens_near : (journal : Journal D) (rows doubt : List Row) → Keeps seen may_leave journal rows doubt → (c : List ℕ)
      → (journal.in_doubt ≡ false → SameTo (journal.gate + 1) (seen journal.disk) c)
      → (journal.in_doubt ≡ true → SameBut journal.gate (seen journal.disk) c)
      → OpensTo rows (doubted journal.in_doubt doubt) c
  opens_near journal rows doubt k c to but = go journal.in_doubt refl
    where
      go : (b : Bool) → journal.in_doubt ≡ b → OpensTo rows (doubted b doubt) c
      go false off =
          let s = k.stands.shut off in
          subst (λ (l : List Row). OpensTo l [] c) k.rows_are
          (opens_of k.groups [] c k.fit tt
          (inl (shut_opens (seen journal.disk) (may_leave journal.disk) journal.gate (map payload k.groups) c s
          (to off))))
      go true on =
          let m = k.stands.doubt on in
          subst (λ (l : List Row). OpensTo l (doubt ∷ []) c) k.rows_are
          (opens_of k.groups (doubt ∷ []) c k.fit (k.doubt_fits, tt)
          (one (may_opens (seen journal.disk) (may_leave journal.disk) journal.gate (map payload k.groups)
          (payload doubt) c m (but on))))
        where
          one : IsJournal (map payload k.groups) c ⊎ IsJournal (map payload k.groups ++ payload doubt ∷ []) c
              → IsKeptOrOneMore (map payload k.groups) (payload doubt ∷ []) c
          one (inl same) = inl same
          one (inr more) = inr (payload doubt, inl refl, more)

  -- what a stop between two calls leaves
  pub stops_between : (journal : Journal D) (rows doubt : List Row) → Keeps seen may_leave journal rows doubt
      → (c : List ℕ) → may_leave journal.disk c → OpensTo rows (doubted journal.in_doubt doubt) c
  stops_between journal rows doubt k c left =
      opens_near journal rows doubt k c (λ off. (k.stands.shut off).synced c left)
      (λ on. (k.stands.doubt on).synced c left)

  -- and what a read gives
  pub opens_seen : (journal : Journal D) (rows doubt : List Row) → Keeps seen may_leave journal rows doubt
      → OpensTo rows (doubted journal.in_doubt doubt) (seen journal.disk)
  opens_seen journal rows doubt k =
      opens_near journal rows doubt k (seen journal.disk)
      (λ off. record { front = refl; long = (k.stands.shut off).long })
      (λ on. record { front = refl; back = refl; long = refl })

-- what a stop leaves while a group is appended behind a gate that isn't in doubt
pub opens_one : (groups : List (List Row)) (rows group : List Row) (c : List ℕ) → FitGroups groups → FitsGroup group
    → rows_of groups ≡ rows → IsKeptOrOneMore (map payload groups) (payload group ∷ []) c → OpensTo rows (group ∷ []) c
opens_one groups rows group c fit fits is o =
    subst (λ (l : List Row). OpensTo l (group ∷ []) c) is (opens_of groups (group ∷ []) c fit (fits, tt) o)

-- and while a gate is closed again
pub opens_doubted : (groups : List (List Row)) (rows doubt group : List Row) (b : Bool) (c : List ℕ) → FitGroups groups
    → FitsGroup doubt
    → rows_of groups ≡ rows → IsKeptOrOneMore (map payload groups) (doubted b (payload doubt)) c
    → OpensTo rows (group ∷ doubted b doubt) c
opens_doubted groups rows doubt group b c fit fits is o =
    opens_wider rows (doubted b doubt) (group ∷ doubted b doubt) c (among_rest group (doubted b doubt))
    (subst (λ (l : List Row). OpensTo l (doubted b doubt) c) is
    (opens_of groups (doubted b doubt) c fit (doubted_fits b doubt fits)
    (subst (λ (ps : List (List ℕ)). IsKeptOrOneMore (map payload groups) ps c) (doubted_payload b doubt) o)))

pub doubt_either : (b : Bool) (group : List Row) (old : List (List Row))
    → (doubted b group ≡ []) ⊎ ((doubted b group ≡ group ∷ []) ⊎ (doubted b group ≡ old))
doubt_either true group old = inr (inl refl)
doubt_either false group old = inl refl
