-- SPDX-License-Identifier: Apache-2.0 OR MIT
-- What a shelf of journals tells of the rows at its paths.
use Rattle.std.proofs.Common.{◌≡◌, ◌≢◌, inl, inr, ℕ, List, [], ◌++◌, Bool, true, false, Option, Some, None}
use Rattle.std.proofs.Common.{Result, Err, refl, sym, ap, subst, ◌∙◌}
use Rattle.std.proofs.Math.Path.{fun_ext}
use Rattle.std.specs.Prelude.{IfSome, IsFalse, IsTrue}
use Rattle.cr_base.specs.declared.row.Row.{Row}
use Rattle.cr_disks.specs.Disk.{with_bytes}
use Rattle.cr_ports.specs.Shelving.{StandsAfter, StaysOpened}
use Rattle.cr_ports.specs.declared.keeper.KeeperError.{KeeperError}
use Rattle.cr_ports.specs.declared.keeper.KeeperError.TheVariants.{Failed}
use Rattle.cr_ports.proofs.Shelving.{cond_apart, cond_here, cond_same}
use Rattle.cr_journal.specs.Keeping.{OpensTo}
use Rattle.cr_journal.specs.Shelving.{rows_at}
use Rattle.cr_journal.specs.Stored.{stored_rows}
use Rattle.cr_journal.proofs.Stored.{stored_opens}

-- the keeper has the rows that were told
pub told_before : (b : Bool) (files : List ℕ → List ℕ) (path : List ℕ) (rows : List Row)
    → (IsTrue b → stored_rows (files path) ≡ Some rows)
    → IfSome (rows_at b files path) (λ there. Some rows ≡ Some there)
told_before true files path rows is =
    subst (λ (o : Option (List Row)). IfSome o (λ there. Some rows ≡ Some there)) (sym (is refl)) refl
told_before false files path rows is = tt

-- no file was changed
pub told_same : {K : Type 0} (b : Bool) (old new : List ℕ → List ℕ) (path : List ℕ) (result : Result K KeeperError)
    → (IsTrue b → new ≡ old) → StaysOpened b path result (rows_at b old) (rows_at b new)
told_same true old new path result is =
    inl (λ other. ap (λ (files : List ℕ → List ℕ). stored_rows (files other)) (is refl))
told_same false old new path result is = inl (λ other. refl)

-- a file was given back with the bytes that it had
pub as_were : (old mid new : List ℕ → List ℕ) (path seen : List ℕ) → mid ≡ old → seen ≡ old path
    → new ≡ with_bytes mid path seen → new ≡ old
as_were old mid new path seen same own put =
    fun_ext (λ other. ap (λ (files : List ℕ → List ℕ). files other) put
    ∙ (λ i. with_bytes (same i) path (own i) other)
    ∙ cond_same path other old)

-- a file that was empty was given back with none, or with these bytes
pub put_some : (mid new : List ℕ → List ℕ) (path seen : List ℕ) (is_gone : Bool)
    → (IsTrue is_gone → new ≡ with_bytes mid path []) → (IsFalse is_gone → new ≡ with_bytes mid path seen)
    → (bytes : List ℕ) × (new ≡ with_bytes mid path bytes)
put_some mid new path seen true gone kept = ([], gone refl)
put_some mid new path seen false gone kept = (seen, kept refl)

pub told_half : {K : Type 0} (b : Bool) (old mid new : List ℕ → List ℕ) (path : List ℕ)
    → (IsTrue b → mid ≡ old) → (IsTrue b → old path ≡ [])
    → (IsTrue b → (bytes : List ℕ) × (new ≡ with_bytes mid path bytes))
    → StaysOpened {K = K} b path (Err Failed) (rows_at b old) (rows_at b new)
told_half false old mid new path same none put = inl (λ other. refl)
told_half true old mid new path same none put = inr (
  refl,
  refl,
  ap stored_rows (none refl),
  λ other apart. ap stored_rows (ap (λ (files : List ℕ → List ℕ). files other)
      ((put refl).1 ∙ ap (λ (files : List ℕ → List ℕ). with_bytes files path (put refl).0) (same refl))
      ∙ cond_apart path other (put refl).0 (old other) apart),
)

-- a keeper was shut
pub told_after : (b : Bool) (old new : List ℕ → List ℕ) (path seen : List ℕ) (rows : List Row) (tried : List (List Row))
    → (IsTrue b → new ≡ with_bytes old path seen) → (IsTrue b → OpensTo rows tried seen)
    → StandsAfter b rows tried (rows_at b old path) (rows_at b new path)
told_after false old new path seen rows tried put opens = tt
told_after true old new path seen rows tried put opens = go (stored_rows (old path))
  where
    is : stored_rows (new path) ≡ stored_rows seen
    is = ap stored_rows (ap (λ (files : List ℕ → List ℕ). files path) (put refl) ∙ cond_here path seen (old path))

    go : (before : Option (List Row)) → StandsAfter true rows tried before (stored_rows (new path))
    go None = tt
    go (Some before) = of (opens refl)
      where
        of : OpensTo rows tried seen → StandsAfter true rows tried (Some before) (stored_rows (new path))
        of (inl all) = inl (is ∙ stored_opens seen rows all)
        of (inr one) = inr (refl, (one.0, one.1, is ∙ stored_opens seen (rows ++ one.0) one.2))

-- at each other path stands what stood there
pub told_others : (b : Bool) (old new : List ℕ → List ℕ) (path seen other : List ℕ)
    → (IsTrue b → new ≡ with_bytes old path seen)
    → other ≢ path → rows_at b new other ≡ rows_at b old other
told_others false old new path seen other put apart = refl
told_others true old new path seen other put apart =
    ap stored_rows (ap (λ (files : List ℕ → List ℕ). files other) (put refl) ∙ cond_apart path other seen (old other)
    apart)
