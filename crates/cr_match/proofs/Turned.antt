-- SPDX-License-Identifier: Apache-2.0 OR MIT
-- What a step of a turn keeps: a paper gives up a member, and another takes her.
use Rattle.cr_match.proofs.Common.{◌≡◌, inl, inr, ℕ, ◌<◌, ◌≤◌, true, false, List, get_or, refl, arith, subst}
use Rattle.cr_match.proofs.Common.{cases_eq, Board, Choice, Moves, Takes, Drops, IsDraft, Fits, Turns, at}
use Rattle.cr_match.specs.Draft.{AreSpare, Flips, Lends, Loosens}
use Rattle.cr_match.proofs.Flipped.{at_other, at_same, iff_trans, loose_same, or_all}

loose_trans : {b : Board} {c d e : Choice} {u w z : Moves} → Loosens b c u d w → Loosens b d w e z → Loosens b c u e z
loose_trans h k = record {
  free = λ q x lq lx. iff_trans (k.free q x lq lx) (h.free q x lq lx);
  closed = λ q x lq lx none. iff_trans (k.closed q x lq lx (λ f. none ((h.free q x lq lx).0 f)))
      (h.closed q x lq lx none);
  spare = λ x lx. iff_trans (k.spare x lx) (h.spare x lx);
}

pub no_member : (b : Board) (x : ℕ) → x < b.members → at b.members x ≡ 0
no_member b x lx = at_other b.members x (λ e. absurd (omega (arith, e, lx)))

-- at first the target itself has one to give
pub lends_itself : {b : Board} {c : Choice} {u : Moves} (target : ℕ) → Lends b target target c u c u
lends_itself target = record { loose = loose_same; given = λ q _. refl; fits = λ _ _ fit. fit }

module _ {b : Board} {target p m : ℕ} {c d e : Choice} {u w z : Moves} (lm : m < b.members) where
  -- the paper gives up the member
  pub gives : p ≤ b.papers → IsDraft b d w → Drops b w m p → Lends b target p c u d w → Flips b p m false d w e z
      → Turns b target m c u e z
  gives lp h drops l f = record {
    loose = loose_trans l.loose f.loose;
    given = inl ((λ k. absurd (omega (arith, k, lm))), λ q lq. omega (arith, l.given q lq, f.given q lq lm));
    fits = λ prices spare fit. given_fits prices (l.fits prices spare fit);
  }
    where
      given_fits : (prices : List ℕ) → Fits b prices b.members d → Fits b prices m e
      given_fits prices fit x lx =
          let none = no_member b x lx in
          elim (or_all p b.papers lp) [
            | inl less ↦ let n = f.used x lx less in
                (omega (arith, none, n, (fit x lx).0), λ some. omega (arith, none, n, (fit x lx).1 some))
            | inr all ↦ let n = f.idle all x in elim (cases_eq m x) [
              | inr ne ↦ let z = at_other m x ne in
                  (omega (arith, none, n, z, (fit x lx).0), λ some. omega (arith, none, n, z, (fit x lx).1 some))
              | inl k ↦ let room : get_or d.used.items x 0 < b.load =
                  (h.room x lx).0 (subst (λ y. Drops b w y b.papers) k (subst (Drops b w m) all drops)) in (
                    omega (arith, n, at_same m x k, room),
                    λ some. absurd (omega (arith, none, (fit x lx).1 some, room)),
                  )
            ]
          ]

  -- and another takes her
  pub takes : p ≤ b.papers → Takes b w p m → Turns b target m c u d w → Flips b p m true d w e z
      → Lends b target p c u e z
  takes lp taken t f = record {
    loose = loose_trans t.loose f.loose;
    given = λ q lq. elim t.given [
      | inl all ↦ omega (arith, all.1 q lq, f.given q lq lm)
      | inr root ↦ absurd (omega (arith, root.0, lm))
    ];
    fits = λ prices spare fit. taken_fits prices spare (t.fits prices spare fit);
  }
    where
      taken_fits : (prices : List ℕ) → AreSpare b u prices → Fits b prices m d → Fits b prices b.members e
      taken_fits prices spare fit x lx =
          let none = no_member b x lx in
          elim (or_all p b.papers lp) [
            | inl less ↦ let n = f.used x lx less in
                (omega (arith, none, n, (fit x lx).0), λ some. omega (arith, none, n, (fit x lx).1 some))
            | inr all ↦ let n = f.idle all x in elim (cases_eq m x) [
              | inr ne ↦ let z = at_other m x ne in
                  (omega (arith, none, n, z, (fit x lx).0), λ some. omega (arith, none, n, z, (fit x lx).1 some))
              | inl k ↦ let free : get_or prices x 0 ≡ 0 = spare x lx ((t.loose.spare x lx).0
                  (subst (Takes b w b.papers) k (subst (λ y. Takes b w y m) all taken))) in
                  (omega (arith, none, n, (fit x lx).0), λ some. absurd (omega (arith, some, free)))
            ]
          ]

-- nobody is given up by none
pub ends : {b : Board} {target p root : ℕ} {c d e : Choice} {u w z : Moves} → root ≡ b.members → p ≤ b.papers
    → IsDraft b c u → Drops b u root p → Lends b target p c u d w → Flips b p root false d w e z
    → Turns b target root c u e z
ends {b} {target} {p} {root} {c} {d} {e} {u} is lp h drops l f =
    let nobody : Drops b u b.members p = subst (λ k. Drops b u k p) is drops in
    let less : p < b.papers = elim (or_all p b.papers lp) [
      | inl lt ↦ lt
      | inr all ↦ absurd (h.never (subst (Drops b u b.members) all nobody))
    ] in
    record {
      loose = loose_trans l.loose f.loose;
      given = inr (is, p, less, (h.lack p less).0 nobody, λ q lq. omega (arith, f.none is q, l.given q lq));
      fits = λ prices spare fit x lx.
          let n = f.used x lx less in
          let none = at_other root x (λ k. absurd (omega (arith, k, is, lx))) in
          let old = l.fits prices spare fit x lx in (
            omega (arith, n, none, old.0, no_member b x lx),
            λ some. omega (arith, n, none, old.1 some, no_member b x lx),
          );
    }
