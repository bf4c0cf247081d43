-- SPDX-License-Identifier: Apache-2.0 OR MIT
-- Stores that open, and stores that don't.
use Rattle.std.proofs.Common.{◌≡◌, ◌∙◌, ◌≤◌, ◌<◌, ◌++◌, ◌⊎◌, ⊎_elim, inl, inr, ℕ, List, [], ◌∷◌, length, Bool, true}
use Rattle.std.proofs.Common.{false}
use Rattle.std.proofs.Common.{Option, Some, None, Result, Ok, Err, IfSome, refl, sym, ap, ap₂, subst, arith}
use Rattle.std.specs.Prelude.{IsTrue, is_some}
use Rattle.std.proofs.lemmas.Bool.{false≢true}
use Rattle.std.proofs.Math.Path.{fun_ext}
use Rattle.std.proofs.lemmas.List.{map-append}
use Rattle.std.specs.List.{AllByRecursion}
use Rattle.std.specs.Str.{bytes_eq}
use Rattle.std.proofs.lemmas.Slice.Eq.{bytes_eq-Decides}
use Rattle.cr_base.specs.declared.entry.Entry.{Entry}
use Rattle.cr_base.specs.declared.entry.Entry.TheVariants.{Registered}
use Rattle.cr_base.specs.declared.entry.Stamp.{Stamp}
use Rattle.cr_base.specs.declared.row.Row.{Row}
use Rattle.cr_base.specs.Drawn.{stamped}
use Rattle.cr_base.specs.HistoryFacts.{number_of}
use Rattle.cr_base.specs.Lists.{given, last, listed}
use Rattle.cr_base.specs.History.{History, all_told, number_told}
use Rattle.cr_base.specs.Rows.{row_of, rows_of, IsBoundedEntry}
use Rattle.cr_ports.specs.declared.keeper.KeeperError.{KeeperError}
use Rattle.cr_ports.specs.declared.keeper.KeeperError.TheVariants as refusals
use Rattle.cr_ports.specs.Count.{Gains, Rises}
use Rattle.cr_ports.specs.Writing.{Outlet}
use Rattle.cr_ports.specs.Shelving.{StandsAfter, StaysOpened}
use Rattle.cr_ports.specs.Stopping.{IsAmong, OpensTo}
use Rattle.cr_policy.specs.Legal.{Legal}
use Rattle.cr_book.specs.declared.opening.OpenError.{OpenError}
use Rattle.cr_book.specs.declared.opening.OpenError.TheVariants as errors
use Rattle.cr_book.specs.Opening.{IsCounted, Opens}
use Rattle.cr_book.specs.Seen.{SeenBook}
use Rattle.cr_book.specs.Sound.{IsKept}
use Rattle.cr_beginnings.proofs.GroupRows.{legal-bounded}
use Rattle.cr_lock.specs.Turns.{Reached}
use Rattle.cr_lock.proofs.Reaching.{reached_has}
use Rattle.cr_session.specs.declared.serve.Ending.{Ending}
use Rattle.cr_session.specs.Passing.{IsTurnOf}
use Rattle.cr_session.specs.Replay.{JudgedWish}
use Rattle.cr_session.specs.Tries.{tries_of}
use Rattle.cr_session.proofs.Endings.{replayed}
use Rattle.cr_session.proofs.Losses.{OwesLosses, owes-turn}
use Rattle.cr_session.proofs.Turns as turns
use Rattle.cr_session.specs.Serving.{ConnectionBytes, WholeBytes}
use Rattle.cr_session.specs.Stopping.{IsLostGroup, KeepsWishes, KeepsWishesTold}
use Rattle.cr_top.specs.declared.exit.Exit.{Exit}
use Rattle.cr_top.specs.declared.exit.Exit.TheVariants as exits
use Rattle.cr_top.specs.Exits.{exit_of, exit_of_rows}
use Rattle.cr_top.specs.Runs.{Keeps, Outside, Pipes, world}
use Rattle.cr_book.specs.Stopping.{CountsTried, Keepers, KeepsGroups, KeepsTold, OpensAmid}
use Rattle.cr_top.specs.Stores.{AnswersView, BeginsAt, CrashKeepsGroups, IsBadStore, IsGroupInVain, Keeping}
use Rattle.cr_top.specs.Stores.{KeepsOthers, KeepsRows, KeepsStore, KeepsWishesThere, LeavesExactly, OpensStore}
use Rattle.cr_top.specs.Stores.{RowsByPath}
use Rattle.cr_top.specs.Stores.{ServesStore, ShelfState, StandOrOneLost, StandOrOneMore, StaysShut, TellsView}
use Rattle.cr_top.specs.Stores.{ViewsStore}

-- ---- what stands at the paths

told-still : (o : Option (List Row)) → IfSome o (λ there. o ≡ Some there)
told-still None = tt
told-still (Some there) = refl

-- a keeper of the rows that stood at a path was taken back, with which nothing had been tried in vain
shut-rows : (tells : Bool) (s s' : ShelfState) (path : List ℕ) (told : Option (List Row)) (tried : List (List Row))
    → (IsTrue tells → tried ≡ []) → IfSome (s.rows path) (λ there. told ≡ Some there)
    → IfSome told (λ kept. StandsAfter tells kept tried (s.rows path) (s'.rows path)) → KeepsOthers path s s'
    → KeepsRows s s'
shut-rows tells s s' path told tried none found kept others other = at (bytes_eq path other) refl
  where
    none-tried : (group : List Row) → IsTrue tells → IsAmong tried group → ⊥
    none-tried group is among = subst (λ (groups : List (List Row)). IsAmong groups group) (none is) among

    stands : (before there : Option (List Row)) (rows : List Row) → before ≡ Some rows
        → StandsAfter tells rows tried before there
        → IfSome before (λ r. there ≡ Some r)
    stands None there rows is after = tt
    stands (Some r) there rows is (inl same) = same ∙ sym is
    stands (Some r) there rows is (inr more) = absurd (none-tried more.1.0 more.0 more.1.1)

    told-there : (before there told : Option (List Row)) → IfSome before (λ r. told ≡ Some r)
        → IfSome told (λ k. StandsAfter tells k tried before there) → IfSome before (λ r. there ≡ Some r)
    told-there None there told found kept = tt
    told-there (Some r) there told found kept =
        stands (Some r) there r refl
        (subst (λ (t : Option (List Row)). IfSome t (λ k. StandsAfter tells k tried (Some r) there)) found kept)

    at : (b : Bool) → bytes_eq path other ≡ b → IfSome (s.rows other) (λ there. s'.rows other ≡ Some there)
    at true is =
        subst (λ (p : List ℕ). IfSome (s.rows p) (λ there. s'.rows p ≡ Some there)) ((bytes_eq-Decides path other).0 is)
        (told-there (s.rows path) (s'.rows path) told found kept)
    at false is =
        same-rows-at
        (others other (λ (e : other ≡ path). absurd (false≢true (sym is ∙ (bytes_eq-Decides path other).1 (sym e)))))
      where
        same-rows-at : s'.rows other ≡ s.rows other → IfSome (s.rows other) (λ there. s'.rows other ≡ Some there)
        same-rows-at e = subst (λ (o : Option (List Row)). IfSome (s.rows other) (λ there. o ≡ Some there)) (sym e)
            (told-still (s.rows other))

-- ---- a store that opens, or doesn't

-- an open that didn't fail leaves all as it was
pub opened-still : {K : Type 0} (tells : Bool) (path : List ℕ) (keeper : K) (old new : RowsByPath)
    → StaysOpened tells path (Ok keeper) old new → new ≡ old
opened-still tells path keeper old new (inl same) = fun_ext same
opened-still {K} tells path keeper old new (inr made) = absurd (not-both made.1)
  where
    not-both : ◌≡◌ {A = Result K KeeperError} (Ok keeper) (Err refusals.Failed) → ⊥
    not-both is = cc is

mapped : {A B : List Row → Type 0} (o : Option (List Row)) → ((r : List Row) → A r → B r) → IfSome o A → IfSome o B
mapped None f a = tt
mapped (Some r) f a = f r a

-- a book was opened over a keeper of the rows at a path
pub opens-store : {K : Type 0} (rows : K → Option (List Row)) (faults : K → ℕ) (path : List ℕ) (keeper : K)
    (book : SeenBook K)
    (s s' : ShelfState) → Legal book.log → IfSome (s.rows path) (λ there. rows keeper ≡ Some there)
    → IfSome (rows keeper) (λ r. Opens r (Ok book)) → rows book.keeper ≡ rows keeper → book.opened ≡ keeper
    → faults book.keeper ≡ 0
    → s'.rows ≡ s.rows → s'.faults ≡ s.faults → OpensStore rows faults path book s s'
opens-store {K} rows faults path keeper book s s' legal found exact same first fresh rows_stay faults_stay = record {
  legal = legal;
  found = mapped (s.rows path) (λ r told. (opened r told).1) found;
  only = mapped (s.rows path) (λ r told. (opened r told).2) found;
  told = mapped (s.rows path) (λ r told. same ∙ told) found;
  still = same ∙ ap rows (sym first);
  fresh = fresh;
  same = (λ i. record { rows = rows_stay i; faults = faults_stay i });
}
  where
    opened : (r : List Row) → rows keeper ≡ Some r → Opens {K = K} r (Ok book)
    opened r told = subst (λ (t : Option (List Row)). IfSome t (λ l. Opens {K = K} l (Ok book))) told exact

-- the book begins with what its keeper had
pub begins-at : {K : Type 0} (keepers : Keepers K) (at : ℕ) (keeper : K)
    (book : SeenBook K) → book.opened ≡ keeper → book.keeper ≡ keeper → at ≡ keepers.moment keeper
    → keepers.tried keeper ≡ []
    → IfSome (keepers.rows keeper) (λ r. Opens r (Ok book))
    → ((image : List ℕ) → keepers.left_since book.keeper (keepers.moment book.keeper) image
    → OpensTo keepers.opens (rows_of book.log) (keepers.tried book.keeper) image)
    → BeginsAt keepers at book
begins-at {K} keepers at keeper book first still here none exact between = record {
  at = here ∙ ap keepers.moment (sym first);
  still = still ∙ sym first;
  none = ap keepers.tried first ∙ none;
  first = subst (λ (k : K). IfSome (keepers.rows k) (λ told. rows_of book.log ≡ told)) (sym first)
      (mapped (keepers.rows keeper) (λ r so. so.1) exact);
  between = between;
}

-- a count rises where it gains what another rose by, from 0 on
pub risen : (f faults f' : ℕ) → Rises 0 faults → Gains f faults f' → Rises f f'
risen f faults f' rises gains below = let up = gains.1 below in let some =
    rises (omega (arith, below, up)) in omega (arith, up, some)

-- what is told of rows that don't open, by the rows that stand there
explained : {K : Type 0} (there : Option (List Row)) (told : Option (List Row)) (row : ℕ) (found : Row) (keeper : K)
    → IfSome there (λ r. told ≡ Some r)
    → IfSome told (λ rows. Opens rows (Err (errors.BadStore row found, keeper)))
    → IfSome there (λ r. IsBadStore r row found.kind)
explained None told row found keeper is opens = tt
explained {K} (Some there) told row found keeper is opens =
    let bad =
    subst (λ (t : Option (List Row)). IfSome t (λ rows. Opens {K = K} rows (Err (errors.BadStore row found, keeper))))
    is opens in
    record { found = found; kind_is = refl; bad = bad.0; none = bad.1 }

module _ {K : Type 0} (tells : Bool) (rows : K → Option (List Row)) (tried : K → List (List Row)) (faults : K → ℕ)
    (path : List ℕ)
    (s s' : ShelfState) (opened given : K)
    (found : IfSome (s.rows path) (λ there. rows opened ≡ Some there)) (fresh : faults opened ≡ 0)
    (same : rows given ≡ rows opened)
    (none : IsTrue tells → tried given ≡ [])
    (kept : IfSome (rows given) (λ k. StandsAfter tells k (tried given) (s.rows path) (s'.rows path)))
    (others : KeepsOthers path s s')
    (gains : Gains s.faults (faults given) s'.faults) where
  shut : KeepsRows s s'
  shut = shut-rows tells s s' path (rows given) (tried given) none
      (subst (λ (t : Option (List Row)). IfSome (s.rows path) (λ there. t ≡ Some there)) (sym same) found) kept others

  pub rows-refuse : (error : OpenError) → IfSome (rows opened) (λ told. Opens told (Err (error, given)))
      → IsCounted {T = Unit {0}} (faults opened) (faults given) (Err error)
      → StaysShut tells path (exit_of_rows error) s s'
  rows-refuse (errors.BadStore row bad) opens cause = record {
    refused = explained (s.rows path) (rows opened) row bad given found opens;
    rows = inl shut;
    count = gains.0;
  }
  rows-refuse errors.KeeperFault opens cause =
      record {
        refused = risen s.faults (faults given) s'.faults
            (subst (λ (n : ℕ). Rises n (faults given)) fresh (cause.failed refl)) gains;
        rows = inl shut;
        count = gains.0;
      }
  rows-refuse errors.OutOfMemory opens cause = record { refused = tt; rows = inl shut; count = gains.0 }

-- ---- a store that was served or read

-- the keeper of a book that was opened and worked on was taken back
module _ {K : Type 0} (tells : Bool) (rows : K → Option (List Row)) (tried : K → List (List Row)) (faults : K → ℕ)
    (path : List ℕ)
    (book : SeenBook K) (keeper' : K) (s m s' : ShelfState) (opens : OpensStore rows faults path book s m)
    (kept : IfSome (rows keeper') (λ k. StandsAfter tells k (tried keeper') (m.rows path) (s'.rows path)))
    (others : KeepsOthers path m s') (gains : Gains m.faults (faults keeper') s'.faults) where
  rows-now : IfSome (rows keeper') (λ k. StandsAfter tells k (tried keeper') (s.rows path) (s'.rows path))
  rows-now =
      subst (λ (x : ShelfState). IfSome (rows keeper')
      (λ k. StandsAfter tells k (tried keeper') (x.rows path) (s'.rows path))) opens.same kept

  others-now : KeepsOthers path s s'
  others-now = subst (λ (x : ShelfState). KeepsOthers path x s') opens.same others

  pub count-now : Gains s.faults (faults keeper') s'.faults
  count-now = subst (λ (n : ℕ). Gains n (faults keeper') s'.faults) (ap (λ (x : ShelfState). x.faults) opens.same) gains

  -- with the rows of a history, where they were told, and perhaps a group that was tried
  module _ (H : History) (is : IsKept rows keeper' H) (alike : is_some (rows keeper') ≡ is_some (rows book.opened))
      (IsLost : History → Type 0)
      (follows : IsTrue tells → (added : List Row) → IsAmong (tried keeper') added
      → (group : History) × IsLost group × (added ≡ rows_of group)) where
    pub stand : StandOrOneMore tells path H IsLost s s'
    stand = at (s.rows path) (s'.rows path) (rows keeper')
        (mapped (s.rows path) (λ r told. alike ∙ ap is_some (sym opens.still ∙ told)) opens.told) is rows-now
      where
        at : (before there told : Option (List Row)) → IfSome before (λ b. IsTrue (is_some told))
            → IfSome told (λ t. t ≡ rows_of H) → IfSome told (λ k. StandsAfter tells k (tried keeper') before there)
            → IfSome before (λ b. (there ≡ Some (rows_of H))
            ⊎ (IsTrue tells × ((group : History) × IsLost group × (there ≡ Some (rows_of (H ++ group))))))
        at None there told some same after = tt
        at (Some b) there None some same after = absurd (false≢true some)
        at (Some b) there (Some r) some same (inl stands) = inl (stands ∙ ap Some same)
        at (Some b) there (Some r) some same (inr more) =
            let f = follows more.0 more.1.0 more.1.1 in
            inr (
              more.0,
              (
                f.0,
                f.1,
                more.1.2
                    ∙ ap Some (ap₂ (λ (xs ys : List Row). xs ++ ys) same f.2 ∙ sym (map-append row_of H f.0)),
              ),
            )

  -- as it was opened
  pub same-rows : keeper' ≡ book.keeper → (IsTrue tells → tried keeper' ≡ []) → KeepsRows s s'
  same-rows same none = shut-rows tells s s' path (rows keeper') (tried keeper') none
      (subst (λ (k : K). IfSome (s.rows path) (λ there. rows k ≡ Some there)) (sym same) opens.told) rows-now others-now

  -- where the shelf's count didn't rise, the keeper's didn't
  pub no_fault : (Rises s.faults s'.faults → ⊥) → Rises (faults book.keeper) (faults keeper') → ⊥
  no_fault idle rises =
      idle (risen s.faults (faults keeper') s'.faults (subst (λ (n : ℕ). Rises n (faults keeper')) opens.fresh rises)
      count-now)

pub serves-store : {K I : Type 0} (tells : Bool) (rows : K → Option (List Row)) (tried : K → List (List Row))
    (kept-so : Keeps)
    (keeps : Keeping) (faults : K → ℕ) (path : List ℕ) (left : I → Option (List ℕ)) (gives : I → I → List ℕ → Type 0)
    (exit : Exit) (ending : Ending) → exit ≡ exit_of ending
    → (book : SeenBook K) (keeper' : K) (o o' : Outside I) (s m s' : ShelfState)
    → OpensStore rows faults path book s m → Pipes rows kept-so faults left gives book.log ending book.keeper keeper' o
    o'
    → IfSome (rows keeper') (λ k. StandsAfter tells k (tried keeper') (m.rows path) (s'.rows path))
    → KeepsOthers path m s'
    → Gains m.faults (faults keeper') s'.faults
    → ((history : History) → IsKept rows keeper' history → (judged : List JudgedWish) → kept-so history judged
    → keeps.store book.log history s s' × keeps.wishes book.log history judged s s')
    → ((history : History) → IsKept rows keeper' history → faults keeper' ≡ 0 → LeavesExactly path history s s')
    → ServesStore keeps path left gives exit o o' s s'
serves-store {K} {I} tells rows tried kept-so keeps faults path left gives exit ending is book keeper' o o' s m s' opens
    p kept others gains so exact = record {
      opening = book.log;
      opens = opens.legal;
      found = opens.found;
      ending = ending;
      exit_is = is;
      history = p.history;
      legal = p.legal;
      faults = faults keeper';
      connection = from.0;
      whole =
          λ b told. subst (λ (n : ℕ). WholeBytes left ending b (world o book.log n)
          (world o' p.history (faults keeper')))
          opens.fresh (p.whole b told);
      leaves = held.0;
      wishes = from.1;
      counted = gained;
      lost = (
        gained.0,
        λ below. let up = gained.1 below in
            let most = turns.counted (from.0.answered ++ listed from.0.failed) (record {
              history = book.log;
              faults = 0;
            })
            (record { history = p.history; faults = faults keeper' })
            (replayed left gives ending 0 [] (world o book.log 0) (world o' p.history (faults keeper')) from.0)
            (omega (arith, below, up)) in
            omega (arith, up, most),
      );
      exact = λ none. exact p.history p.kept (turns.stands (from.0.answered ++ listed from.0.failed)
          (record { history = book.log; faults = 0 }) (record { history = p.history; faults = faults keeper' })
          (replayed left gives ending 0 [] (world o book.log 0) (world o' p.history (faults keeper')) from.0) none);
    }
  where
    gained : Gains s.faults (faults keeper') s'.faults
    gained = count-now tells rows tried faults path book keeper' s m s' opens kept others gains

    held : keeps.store book.log p.history s s'
        × keeps.wishes book.log p.history (p.connection.answered ++ listed p.connection.failed) s s'
    held = so p.history p.kept (p.connection.answered ++ listed p.connection.failed) p.besides

    -- the keeper had counted no fault at first
    Begun : ℕ → Type 0
    Begun n =
        (c : ConnectionBytes left gives ending 0 [] (world o book.log n) (world o' p.history (faults keeper')))
        × keeps.wishes book.log p.history (c.answered ++ listed c.failed) s s'

    from : Begun 0
    from = subst (λ (n : ℕ). Begun n) opens.fresh (p.connection, held.1)

-- the book's history is the one that has the rows
pub the-history : {K : Type 0} (rows : K → Option (List Row)) (faults : K → ℕ) (path : List ℕ) (book : SeenBook K)
    (s m : ShelfState)
    → OpensStore rows faults path book s m → (H : History) → Legal H → s.rows path ≡ Some (rows_of H)
    → book.log ≡ H
the-history rows faults path book s m opens H legal told =
    sym
    (subst (λ (o : Option (List Row)). IfSome o (λ there. (H : History) → Legal H → rows_of H ≡ there → H ≡ book.log))
    told opens.only
    H legal refl)

-- a store of a legal history's rows opens where nothing fails, or memory runs out
pub opens-or-memory : (tells : Bool) (path : List ℕ) (exit : Exit) (s s' : ShelfState) → StaysShut tells path exit s s'
    → (Rises s.faults s'.faults → ⊥) → (H : History) → Legal H → s.rows path ≡ Some (rows_of H)
    → exit ≡ exits.OutOfMemory
opens-or-memory tells path exits.OutOfMemory s s' shut idle H legal told = refl
opens-or-memory tells path exits.KeeperFault s s' shut idle H legal told = absurd (idle shut.refused)
opens-or-memory tells path (exits.BadStore row kind) s s' shut idle H legal told =
    absurd ((subst (λ (o : Option (List Row)). IfSome o (λ there. IsBadStore there row kind)) told shut.refused).none H
    legal refl)
opens-or-memory tells path exits.Done s s' shut idle H legal told = absurd shut.refused
opens-or-memory tells path exits.Cut s s' shut idle H legal told = absurd shut.refused
opens-or-memory tells path exits.Usage s s' shut idle H legal told = absurd shut.refused
opens-or-memory tells path exits.ReadFault s s' shut idle H legal told = absurd shut.refused
opens-or-memory tells path exits.WriteFault s s' shut idle H legal told = absurd shut.refused
opens-or-memory tells path exits.NoUser s s' shut idle H legal told = absurd shut.refused
opens-or-memory tells path exits.ListenFault s s' shut idle H legal told = absurd shut.refused
opens-or-memory tells path exits.ClockFault s s' shut idle H legal told = absurd shut.refused

-- the keeper of a book that was read alone was taken back
pub views-store : {K : Type 0} (tells : Bool) (rows : K → Option (List Row)) (tried : K → List (List Row))
    (faults : K → ℕ)
    (path name : List ℕ) (exit : Exit) (book : SeenBook K) (keeper' : K) (o o' : Outlet) (s m s' : ShelfState)
    → OpensStore rows faults path book s m → keeper' ≡ book.keeper → (IsTrue tells → tried keeper' ≡ [])
    → TellsView book.log name exit o o'
    → IfSome (rows keeper') (λ k. StandsAfter tells k (tried keeper') (m.rows path) (s'.rows path))
    → KeepsOthers path m s'
    → Gains m.faults (faults keeper') s'.faults → ViewsStore path name exit o o' s s'
views-store tells rows tried faults path name exit book keeper' o o' s m s' opens same none shown kept others gains =
    record {
      opening = book.log;
      opens = opens.legal;
      found = opens.found;
      tells = shown;
      rows = same-rows tells rows tried faults path book keeper' s m s' opens kept others gains same none;
      count = (count-now tells rows tried faults path book keeper' s m s' opens kept others gains).0;
    }

-- nothing was tried in vain with a keeper that is as it was opened
pub none-tried : {K : Type 0} (tells : Bool) (keepers : Keepers K) (at : ℕ)
    (book : SeenBook K) (keeper' : K) → (IsTrue tells → BeginsAt keepers at book)
    → keeper' ≡ book.keeper
    → IsTrue tells → keepers.tried keeper' ≡ []
none-tried tells keepers at book keeper' begins same told =
    let b = begins told in ap keepers.tried (same ∙ b.still) ∙ b.none

-- what a view is answered where nothing fails
pub answers-view : (H : History) (name : List ℕ) (exit : Exit) (o o' : Outlet) → TellsView H name exit o o'
    → (Rises o.faults o'.faults → ⊥)
    → (exit ≡ exits.OutOfMemory) ⊎ AnswersView H name exit o o'
answers-view H name exits.Done o o' tells idle = inr (tells, inl refl)
answers-view H name exits.NoUser o o' tells idle = inr (tells, inr refl)
answers-view H name exits.OutOfMemory o o' tells idle = inl refl
answers-view H name exits.WriteFault o o' tells idle = absurd (idle tells.2.rises)
answers-view H name exits.KeeperFault o o' tells idle = absurd tells
answers-view H name (exits.BadStore row kind) o o' tells idle = absurd tells
answers-view H name exits.ListenFault o o' tells idle = absurd tells
answers-view H name exits.Cut o o' tells idle = absurd tells
answers-view H name exits.Usage o o' tells idle = absurd tells
answers-view H name exits.ReadFault o o' tells idle = absurd tells
answers-view H name exits.ClockFault o o' tells idle = absurd tells

-- ---- names

-- another name than one that is longer than any may be
not-named : (name other : List ℕ) (user : ℕ) → length other ≤ 32 → 34 < length name → (b : Bool)
    → bytes_eq other name ≡ b → given b user ≡ []
not-named name other user few long true is =
    absurd (let e = ap length ((bytes_eq-Decides other name).0 is) in omega (arith, few, long, e))
not-named name other user few long false is = refl

registers-another : (name : List ℕ) (stamp : Stamp) (more : Bool) (e : Entry) → 34 < length name
    → IsBoundedEntry (stamped stamp more e) → number_told name e ≡ []
registers-another name stamp more (Registered user other digest) long b =
    not-named name other user b.b1.few long (bytes_eq other name) refl
registers-another name stamp more e long b = refl

none-named : (name : List ℕ) (H : History) → 34 < length name → AllByRecursion IsBoundedEntry H
    → all_told (number_told name) H ≡ []
none-named name [] long bounded = refl
none-named name (s ∷ H) long bounded =
    ap₂ (λ (xs ys : List ℕ). xs ++ ys) (registers-another name s.stamp s.more s.entry long bounded.0)
    (none-named name H long bounded.1)

-- nobody has registered a name of more bytes than any may have
pub nobody-has : (name : List ℕ) (H : History) → Legal H → 34 < length name → number_of name H ≡ None
nobody-has name H legal long = ap last (none-named name H long (legal-bounded H legal))

-- ---- what a stop may have left

-- what a book's keeper keeps since it was opened, its shelf tells once the keeper was shut
pub groups-kept : {K : Type 0} (tells : Bool) (keepers : Keepers K) (left : List ℕ → Type 0) (at : ℕ)
    (book : SeenBook K) (keeper' : K)
    → (IsTrue tells → IsTrue (is_some (keepers.rows book.opened)))
    → (IsTrue tells → BeginsAt keepers at book)
    → (IsTrue tells → (image : List ℕ) → left image → keepers.left_since keeper' at image)
    → (history : History)
    → (IsTrue tells → keepers.tried book.opened ≡ [] → KeepsGroups keepers book.opened keeper'
    history)
    → CrashKeepsGroups tells keepers.opens left book.log history
groups-kept {K} tells keepers left at book keeper' there begins shut history kept told image
    may =
    let b = begins told in
    opened-rows (keepers.rows book.opened) (there told) b.first
    ((kept told b.none).since image (subst (λ (t : ℕ). keepers.left_since keeper' t image) b.at (shut told image may)))
  where
    opened-rows : (first : Option (List Row)) → IsTrue (is_some first) → IfSome first (λ r. rows_of book.log ≡ r)
        → OpensAmid keepers.opens first history image
        → OpensAmid keepers.opens (Some (rows_of book.log)) history image
    opened-rows None none is a = absurd (false≢true none)
    opened-rows (Some r) some is a =
        subst (λ (x : List Row). OpensAmid keepers.opens (Some x) history image) (sym is) a

-- What a book's keeper keeps, its shelf tells once the keeper was shut. The book was opened over a keeper of a path at
-- which the shelf's keepers tell so.
module _ {K : Type 0} (tells : Bool) (keepers : Keepers K) (left : List ℕ → List ℕ → Type 0)
    (at : ℕ) (path : List ℕ) (book : SeenBook K) (keeper' : K) (s m s' : ShelfState)
    (so : keepers.tells_stops book.opened ≡ tells)
    (so' : keepers.tells_stops keeper' ≡ tells)
    (alike : is_some (keepers.rows keeper') ≡ is_some (keepers.rows book.opened))
    (begins : IsTrue tells → BeginsAt keepers at book)
    (shut : IsTrue (keepers.tells_stops keeper') → (image : List ℕ) → left path image
    → keepers.left_since keeper' at image)
    (opened : OpensStore keepers.rows keepers.faults path book s m)
    (there-now : IfSome (keepers.rows keeper')
    (λ k. StandsAfter tells k (keepers.tried keeper') (m.rows path) (s'.rows path)))
    (others : KeepsOthers path m s')
    (gains : Gains m.faults (keepers.faults keeper') s'.faults)
    (history : History) (is : IsKept keepers.rows keeper' history) where
  pub keeps-store : KeepsTold keepers book.opened keeper' history
      → (IsTrue (keepers.tells_stops keeper') → CountsTried keepers book.opened keeper')
      → KeepsStore tells keepers.opens left path book.log history s s'
  keeps-store kept told-count = record {
    kept = record {
      there = stand tells keepers.rows keepers.tried keepers.faults path book keeper' s m s' opened there-now others
          gains history is alike
          (IsGroupInVain history s s') follows;
      others = others-now tells keepers.rows keepers.tried keepers.faults path book keeper' s m s' opened there-now
          others gains;
    };
    stops =
        groups-kept tells keepers (left path) at book keeper'
        (λ says. keepers.rows_told book.opened (so ∙ says)) begins (λ says. shut (so' ∙ says)) history
        (λ says. kept (so' ∙ says));
  }
    where
      rose : IsTrue tells → (added : List Row) → IsAmong (keepers.tried keeper') added → Rises s.faults s'.faults
      rose says added among =
          let b = begins says in
          ⊎_elim (λ none. absurd (subst (λ (l : List (List Row)). IsAmong l added) none among))
          (λ up. risen s.faults (keepers.faults keeper') s'.faults
          (subst (λ (n : ℕ). Rises n (keepers.faults keeper')) (ap keepers.faults (sym b.still) ∙ opened.fresh) up)
          (count-now tells keepers.rows keepers.tried keepers.faults path book keeper' s m s' opened there-now others
          gains))
          ((told-count (so' ∙ says)).counted b.none)

      follows : IsTrue tells → (added : List Row) → IsAmong (keepers.tried keeper') added
          → (group : History) × IsGroupInVain history s s' group × (added ≡ rows_of group)
      follows says added among =
          let f = (kept (so' ∙ says) (begins says).none).tried_follow added among in
          (f.0, record { adds = f.1; counted = rose says added among }, f.2)

  -- a keeper that has counted no fault leaves the rows of its history and no more
  pub exact-rows : (IsTrue (keepers.tells_stops keeper') → CountsTried keepers book.opened keeper')
      → keepers.faults keeper' ≡ 0
      → LeavesExactly path history s s'
  exact-rows told-count none =
      alone (s.rows path)
      (stand tells keepers.rows keepers.tried keepers.faults path book keeper' s m s' opened there-now others gains
      history
      is
      alike (λ group. ⊥) (λ says added among. absurd (untried says added among)))
    where
      untried : IsTrue tells → (added : List Row) → IsAmong (keepers.tried keeper') added → ⊥
      untried says added among =
          let b = begins says in
          ⊎_elim (λ empty. subst (λ (l : List (List Row)). IsAmong l added) empty among)
          (λ up. let first : keepers.faults book.opened ≡ 0 = ap keepers.faults (sym b.still) ∙ opened.fresh in
          let more = up (omega (arith, none)) in
          absurd (omega (arith, first, none, more)))
          ((told-count (so' ∙ says)).counted b.none)

      alone : (before : Option (List Row))
          → IfSome before (λ b. (s'.rows path ≡ Some (rows_of history))
          ⊎ (IsTrue tells × ((group : History) × ⊥ × (s'.rows path ≡ Some (rows_of (history ++ group))))))
          → IfSome before (λ b. s'.rows path ≡ Some (rows_of history))
      alone None stand = tt
      alone (Some b) (inl same) = same
      alone (Some b) (inr more) = absurd more.1.1

  -- and by the wishes of one connection
  pub wishes-kept : (judged : List JudgedWish)
      → KeepsWishesTold keepers book.keeper keeper' book.log history judged
      → KeepsWishesThere tells keepers.opens left path book.log history judged s s'
  wishes-kept judged kept = record {
    there = stand tells keepers.rows keepers.tried keepers.faults path book keeper' s m s' opened there-now others
        gains history is alike
        (IsLostGroup judged history) (λ says. (kept-so says).lost);
    stops = λ says image may. (kept-so says).since image
        (let b = begins says in
        subst (λ (t : ℕ). keepers.left_since keeper' t image) (b.at ∙ sym (ap keepers.moment b.still))
        (shut (so' ∙ says) image may));
  }
    where
      kept-so : IsTrue tells → KeepsWishes keepers book.keeper keeper' book.log history judged
      kept-so says =
          let b = begins says in
          kept (ap keepers.tells_stops b.still ∙ so ∙ says) (ap keepers.tried b.still ∙ b.none) b.between

  -- and by those of many, whose turns led from the book that was opened to the last
  pub losses-kept : (judged : List JudgedWish) (book' : SeenBook K) → keeper' ≡ book'.keeper → book'.log ≡ history
      → Reached (IsTurnOf (tries_of keepers) judged) book book' → StandOrOneLost tells path history judged s s'
  losses-kept judged book' same last reached =
      stand tells keepers.rows keepers.tried keepers.faults path book keeper' s m s' opened there-now others gains
      history is alike (IsLostGroup judged history) lost
    where
      first : IsTrue tells → OwesLosses keepers judged book
      first says =
          let b = begins says in record {
            told = ap keepers.tells_stops b.still ∙ so ∙ says;
            lost = λ added among. absurd
                (subst (λ (l : List (List Row)). IsAmong l added) (ap keepers.tried b.still ∙ b.none) among);
          }

      owed : IsTrue tells → OwesLosses keepers judged book'
      owed says =
          reached_has (IsTurnOf (tries_of keepers) judged) (OwesLosses keepers judged) book book' (first says)
          (owes-turn keepers judged) reached

      lost : IsTrue tells → (added : List Row) → IsAmong (keepers.tried keeper') added
          → (group : History) × IsLostGroup judged history group × (added ≡ rows_of group)
      lost says added among =
          let o = (owed says).lost added (subst (λ (k : K). IsAmong (keepers.tried k) added) same among) in
          (o.0, subst (λ (H : History). IsLostGroup judged H o.0) last o.1, o.2)

-- what stands where a keeper was shut, by whether it tells what a stop leaves
pub stands-by : (one other : Bool) → one ≡ other → (told : Option (List Row)) (tried : List (List Row))
    (before there : Option (List Row)) → IfSome told (λ k. StandsAfter one k tried before there)
    → IfSome told (λ k. StandsAfter other k tried before there)
stands-by one other same told tried before there =
    subst (λ (b : Bool). IfSome told (λ k. StandsAfter b k tried before there)) same
