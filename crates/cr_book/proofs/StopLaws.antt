-- SPDX-License-Identifier: Apache-2.0 OR MIT
-- What a stop may leave of a book, as its history grows.
use Rattle.std.proofs.Common.{ℕ, ◌≤◌, ◌≡◌, ◌⊎◌, inl, inr, ⊎_elim, List, [], ◌∷◌, ◌++◌, refl, sym}
use Rattle.std.proofs.Common.{ap, subst, ◌∙◌, arith}
use Rattle.std.proofs.Common.{Bool, Option, Some, None, Result, Ok, Err, IfSome, IsTrue, is_some}
use mathlib.Core.List.{IsPrefix}
use Rattle.cr_base.specs.declared.row.Row.{Row}
use Rattle.cr_base.specs.Drawn.{Drawn}
use Rattle.cr_base.specs.History.{History}
use Rattle.cr_base.specs.Rows.{rows_of}
use Rattle.cr_base.specs.Tables.{Tables}
use Rattle.cr_history.proofs.TableAgreement.{rows_of-append}
use Rattle.cr_lock.proofs.Prefixes.{prefix_self, prefix_trans}
use Rattle.cr_policy.specs.Legal.{Legal}
use Rattle.cr_ports.specs.Count.{Rises}
use Rattle.cr_ports.specs.Stopping.{IsAmong, LeavesOnly, OpensTo, OpensToTold, TriedAfter}
use Rattle.cr_ports.proofs.StopLaws.{started, weaken}
use Rattle.cr_book.specs.Sound.{IsKept, IsSound}
use Rattle.cr_book.specs.Stopping.{Adding, AddsOne, CountsTried, Keepers, KeepsGroups, OpensAmid, StopsWell}

-- where the rows are told, they are the history's
told_opens : (opens : List ℕ → List Row → Type 0) (told : Option (List Row)) (log : History) (tried : List (List Row))
    (image : List ℕ)
    → IsTrue (is_some told) → IfSome told (λ rows. rows ≡ rows_of log) → OpensToTold opens told tried image
    → OpensTo opens (rows_of log) tried image
told_opens opens None log tried image there kept o = absurd (cc (there))
told_opens opens (Some rows) log tried image there kept o = subst (λ (r : List Row). OpensTo opens r tried image) kept o

first_of : (told : Option (List Row)) (log : History) → IfSome told (λ rows. rows_of log ≡ rows)
    → IfSome told (λ first. IsPrefix first (rows_of log))
first_of None log spelled = tt
first_of (Some rows) log spelled =
    subst (λ (r : List Row). IsPrefix r (rows_of log)) spelled (prefix_self (rows_of log))

-- rows that are spelled are kept
pub spelled_kept : (told now : Option (List Row)) (log : History) → now ≡ told
    → IfSome told (λ rows. rows_of log ≡ rows) → IfSome now (λ rows. rows ≡ rows_of log)
spelled_kept told now log same spelled =
    subst (λ (o : Option (List Row)). IfSome o (λ rows. rows ≡ rows_of log)) (sym same) (turned told spelled)
  where
    turned : (o : Option (List Row)) → IfSome o (λ rows. rows_of log ≡ rows) → IfSome o (λ rows. rows ≡ rows_of log)
    turned None is = tt
    turned (Some rows) is = sym is

further : (told : Option (List Row)) (log group : History) → IfSome told (λ first. IsPrefix first (rows_of log))
    → IfSome told (λ first. IsPrefix first (rows_of (log ++ group)))
further None log group so_far = tt
further (Some rows) log group so_far =
    prefix_trans rows (rows_of log) (rows_of (log ++ group)) so_far (rows_of group, sym (rows_of-append log group))

module _ {K : Type 0} (keepers : Keepers K) where
  -- a book that was opened just now
  pub opened_well : (keeper now : K) (log : History) → IsTrue (is_some (keepers.rows keeper)) → Legal log
      → IfSome (keepers.rows keeper) (λ told. rows_of log ≡ told) → now ≡ keeper
      → ((image : List ℕ) → keepers.left_since keeper (keepers.moment keeper) image
      → OpensToTold keepers.opens (keepers.rows keeper) (keepers.tried keeper)
      image)
      → StopsWell keepers keeper now log
  opened_well keeper now log there legal spelled same between =
      subst (λ (k : K). StopsWell keepers keeper k log) (sym same) well
    where
      now_opens : (image : List ℕ) → keepers.left_since keeper (keepers.moment keeper) image
          → OpensTo keepers.opens (rows_of log) (keepers.tried keeper) image
      now_opens image left = told_opens keepers.opens (keepers.rows keeper) log (keepers.tried keeper) image there
          (spelled_kept (keepers.rows keeper) (keepers.rows keeper) log refl spelled) (between image left)

      amid : keepers.tried keeper ≡ [] → (image : List ℕ) → keepers.left_since keeper (keepers.moment keeper) image
          → OpensAmid keepers.opens (keepers.rows keeper) log image
      amid none image left = record {
        history = log;
        legal = legal;
        goes_on = first_of (keepers.rows keeper) log spelled;
        part = prefix_self log;
        opens_to = ⊎_elim (λ same. inl same)
            (λ one. absurd (subst (λ (l : List (List Row)). IsAmong l one.0) none one.1)) (now_opens image left);
      }

      well : StopsWell keepers keeper keeper log
      well = record {
        between = now_opens;
        groups = λ none. record {
          later = omega arith;
          goes_on = first_of (keepers.rows keeper) log spelled;
          tried_follow = λ added among. absurd (subst (λ (l : List (List Row)). IsAmong l added) none among);
          since = amid none;
        };
      }

  -- what a stop leaves while a group is being kept opens to the rows of the history or to these and one group
  amid_of : (opened old : K) (log group : History) → Legal log → AddsOne log group
      → KeepsGroups keepers opened old log
      → (image : List ℕ) → OpensTo keepers.opens (rows_of log) (rows_of group ∷ keepers.tried old) image
      → OpensAmid keepers.opens (keepers.rows opened) log image
  amid_of opened old log group legal adds keeps image o = record {
    history = log;
    legal = legal;
    goes_on = keeps.goes_on;
    part = prefix_self log;
    opens_to = ⊎_elim (λ same. inl same) (λ one. inr (one_more one.0 one.1 one.2)) o;
  }
    where
      one_more : (added : List Row) → IsAmong (rows_of group ∷ keepers.tried old) added
          → keepers.opens image (rows_of log ++ added)
          → (g : History) × AddsOne log g × keepers.opens image (rows_of (log ++ g))
      one_more added (inl is) left = (
        group,
        adds,
        subst (λ (r : List Row). keepers.opens image r) (sym (rows_of-append log group))
            (subst (λ (r : List Row). keepers.opens image (rows_of log ++ r)) is left),
      )
      one_more added (inr there) left =
          let f = keeps.tried_follow added there in (
            f.0,
            f.1,
            subst (λ (r : List Row). keepers.opens image r) (sym (rows_of-append log f.0))
                (subst (λ (r : List Row). keepers.opens image (rows_of log ++ r)) f.2 left),
          )

  wider : (opened : K) (log group : History) (image : List ℕ) → OpensAmid keepers.opens (keepers.rows opened) log image
      → OpensAmid keepers.opens (keepers.rows opened) (log ++ group) image
  wider opened log group image a = record {
    history = a.history;
    legal = a.legal;
    goes_on = a.goes_on;
    part = prefix_trans a.history log (log ++ group) a.part (group, refl);
    opens_to = a.opens_to;
  }

  module _ (opened old new : K) (log group : History) (legal : Legal log) (adds : AddsOne log group)
      (stops : LeavesOnly keepers.moment keepers.left_since old new
      (OpensTo keepers.opens (rows_of log) (rows_of group ∷ keepers.tried old)))
      (well : StopsWell keepers opened old log) where
    since_then : (none : keepers.tried opened ≡ []) (image : List ℕ)
        → keepers.left_since new (keepers.moment opened) image
        → OpensAmid keepers.opens (keepers.rows opened) log image
    since_then none image left =
        ⊎_elim ((well.groups none).since image) (amid_of opened old log group legal adds (well.groups none) image)
        (stops.before (keepers.moment opened) image (well.groups none).later left)

    -- the group was kept
    pub kept_well : keepers.tried new ≡ []
        → ((image : List ℕ) → keepers.left_since new (keepers.moment new) image
        → OpensTo keepers.opens (rows_of (log ++ group)) (keepers.tried new)
        image)
        → StopsWell keepers opened new (log ++ group)
    kept_well empty between = record {
      between = between;
      groups = λ none. record {
        later = let before = (well.groups none).later in let more = stops.later in omega (arith, before, more);
        goes_on = further (keepers.rows opened) log group (well.groups none).goes_on;
        tried_follow = λ added among. absurd (subst (λ (l : List (List Row)). IsAmong l added) empty among);
        since = λ image left. wider opened log group image (since_then none image left);
      };
    }

    -- it wasn't
    pub refused_well : (keepers.tried new ≡ [])
        ⊎ ((keepers.tried new ≡ rows_of group ∷ []) ⊎ (keepers.tried new ≡ keepers.tried old))
        → ((image : List ℕ) → keepers.left_since new (keepers.moment new) image
        → OpensTo keepers.opens (rows_of log) (keepers.tried new) image)
        → StopsWell keepers opened new log
    refused_well after between = record {
      between = between;
      groups = λ none. record {
        later = let before = (well.groups none).later in let more = stops.later in omega (arith, before, more);
        goes_on = (well.groups none).goes_on;
        tried_follow = λ added among. follows (well.groups none) added among after;
        since = since_then none;
      };
    }
      where
        follows : KeepsGroups keepers opened old log → (added : List Row)
            → IsAmong (keepers.tried new) added
            → (keepers.tried new ≡ [])
            ⊎ ((keepers.tried new ≡ rows_of group ∷ []) ⊎ (keepers.tried new ≡ keepers.tried old))
            → (g : History) × AddsOne log g × (added ≡ rows_of g)
        follows keeps added among (inl empty) = absurd (subst (λ (l : List (List Row)). IsAmong l added) empty among)
        follows keeps added among (inr (inl one)) = (
          group,
          adds,
          ⊎_elim (λ is. is) (λ none. absurd none)
              (subst (λ (l : List (List Row)). IsAmong l added) one among),
        )
        follows keeps added among (inr (inr same)) =
            keeps.tried_follow added (subst (λ (l : List (List Row)). IsAmong l added) same among)

  -- a call that did nothing to the keeper
  pub nothing_done : (keeper : K) (log group : History)
      → ((image : List ℕ) → keepers.left_since keeper (keepers.moment keeper) image
      → OpensTo keepers.opens (rows_of log) (keepers.tried keeper) image)
      → LeavesOnly keepers.moment keepers.left_since keeper keeper
      (OpensTo keepers.opens (rows_of log) (rows_of group ∷ keepers.tried keeper))
  nothing_done keeper log group between =
      started keepers.moment keepers.left_since keeper
      (OpensTo keepers.opens (rows_of log) (rows_of group ∷ keepers.tried keeper))
      (λ image left. ⊎_elim (λ same. inl same) (λ one. inr (one.0, inr one.1, one.2)) (between image left))

  -- what a keeper says of the rows that it tells, said of the history
  pub stops_of : (old new : K) (log group : History) (added : List Row) → IsTrue (is_some (keepers.rows old))
      → IsKept keepers.rows old log → added ≡ rows_of group
      → LeavesOnly keepers.moment keepers.left_since old new
      (OpensToTold keepers.opens (keepers.rows old) (added ∷ keepers.tried old))
      → LeavesOnly keepers.moment keepers.left_since old new
      (OpensTo keepers.opens (rows_of log) (rows_of group ∷ keepers.tried old))
  stops_of old new log group added there kept is stops =
      weaken keepers.moment keepers.left_since old new
      (OpensToTold keepers.opens (keepers.rows old) (added ∷ keepers.tried old))
      (OpensTo keepers.opens (rows_of log) (rows_of group ∷ keepers.tried old))
      (λ image o. subst (λ (r : List Row). OpensTo keepers.opens (rows_of log) (r ∷ keepers.tried old) image) is
      (told_opens keepers.opens (keepers.rows old) log (added ∷ keepers.tried old) image there kept o)) stops

  pub between_of : (keeper : K) (log : History) → IsTrue (is_some (keepers.rows keeper))
      → IsKept keepers.rows keeper log
      → ((image : List ℕ) → keepers.left_since keeper (keepers.moment keeper) image
      → OpensToTold keepers.opens (keepers.rows keeper) (keepers.tried keeper)
      image)
      → (image : List ℕ) → keepers.left_since keeper (keepers.moment keeper) image
      → OpensTo keepers.opens (rows_of log) (keepers.tried keeper) image
  between_of keeper log there kept between image left =
      told_opens keepers.opens (keepers.rows keeper) log (keepers.tried keeper) image there kept (between image left)

  -- a call that came to nothing before the keeper was asked
  pub added_nothing : {T E : Type 0} (error : E) (keeper : K) (log group : History) (opened : K)
      → StopsWell keepers opened keeper log
      → Adding keepers {T = T} (Err error) log group keeper keeper
  added_nothing error keeper log group opened well =
      record { telling = refl; tried_after = inr (inr refl); stops = nothing_done keeper log group well.between }

  -- what was said of one call is so of another that ended alike
  pub refused_adding : {T U E F : Type 0} (result : Result U F) (error : F) (told : E)
      (log group : History)
      (old new : K) → result ≡ Err error
      → Adding keepers result log group old new
      → Adding keepers {T = T} (Err told) log group old new
  refused_adding {T} {U} {E} {F} result error told log group old new is a = record {
    telling = a.telling;
    tried_after = subst
        (λ (r : Result U F). TriedAfter r (keepers.tried old) (rows_of group) (keepers.tried new)) is a.tried_after;
    stops = a.stops;
  }

  pub kept_adding : {T U E F : Type 0} (result : Result U F) (done : U) (receipt : T)
      (log group : History)
      (old new : K) → result ≡ Ok done
      → Adding keepers result log group old new
      → Adding keepers {E = E} (Ok receipt) log group old new
  kept_adding {T} {U} {E} {F} result done receipt log group old new is a = record {
    telling = a.telling;
    tried_after = subst
        (λ (r : Result U F). TriedAfter r (keepers.tried old) (rows_of group) (keepers.tried new)) is a.tried_after;
    stops = a.stops;
  }

  -- the book around a call of the keeper, which was to keep a group
  module _ (opened old new : K) (telling : keepers.tells_stops new ≡ keepers.tells_stops old)
      (log group : History)
      (added : List Row) (t : Tables) (is : added ≡ rows_of group)
      (before : IsSound keepers.rows log t old
      × (IsTrue (keepers.tells_stops old) → StopsWell keepers opened old log))
      (adds : AddsOne log group)
      (stops : IsTrue (keepers.tells_stops old) → LeavesOnly keepers.moment keepers.left_since old new
      (OpensToTold keepers.opens (keepers.rows old) (added ∷ keepers.tried old)))
      (between : IsTrue (keepers.tells_stops old) → (image : List ℕ)
      → keepers.left_since new (keepers.moment new) image →
      OpensToTold keepers.opens (keepers.rows new)
      (keepers.tried new) image) where
    stops-now : IsTrue (keepers.tells_stops old) → LeavesOnly keepers.moment keepers.left_since old new
        (OpensTo keepers.opens (rows_of log) (rows_of group ∷ keepers.tried old))
    stops-now told = stops_of old new log group added (keepers.rows_told old told) before.0.kept is (stops told)

    -- it was kept
    pub kept_step : (items : History) (now : Tables) → IsSound keepers.rows items now new → items ≡ log ++ group
        → (IsTrue (keepers.tells_stops old) → keepers.tried new ≡ [])
        → IsSound keepers.rows items now new
        × (IsTrue (keepers.tells_stops new) → StopsWell keepers opened new items)
    kept_step items now sound same none = (
      sound,
      λ telling-now. let told = sym telling ∙ telling-now in
          subst (λ (h : History). StopsWell keepers opened new h) (sym same)
          (kept_well opened old new log group before.0.legal adds (stops-now told) (before.1 told) (none told)
          (between_of new (log ++ group) (keepers.rows_told new telling-now)
          (subst (λ (h : History). IsKept keepers.rows new h) same
          sound.kept)
          (between told))),
    )

    pub kept_adds : {E : Type 0} → (IsTrue (keepers.tells_stops old) → keepers.tried new ≡ [])
        → IsTrue (keepers.tells_stops old)
        → Adding keepers {T = Unit {0}} {E = E} (Ok (tt {0})) log group old new
    kept_adds none told = record { telling = telling; tried_after = none told; stops = stops-now told }

    -- it wasn't
    pub refused_step : (items : History) (now : Tables) → items ≡ log → now ≡ t → keepers.rows new ≡ keepers.rows old
        → (IsTrue (keepers.tells_stops old) → (keepers.tried new ≡ [])
        ⊎ ((keepers.tried new ≡ added ∷ []) ⊎ (keepers.tried new ≡ keepers.tried old)))
        → IsSound keepers.rows items now new
        × (IsTrue (keepers.tells_stops new) → StopsWell keepers opened new items)
    refused_step items now same as_was still after = (
      sound,
      λ telling-now. let told = sym telling ∙ telling-now in
          subst (λ (h : History). StopsWell keepers opened new h) (sym same)
          (refused_well opened old new log group before.0.legal adds (stops-now told) (before.1 told) (after_rows told)
          (between_of new log (keepers.rows_told new telling-now) kept (between told))),
    )
      where
        kept : IsKept keepers.rows new log
        kept = subst (λ (o : Option (List Row)). IfSome o (λ told. told ≡ rows_of log)) (sym still) before.0.kept

        sound : IsSound keepers.rows items now new
        sound = subst (λ (h : History). IsSound keepers.rows h now new) (sym same)
            (record { legal = before.0.legal; same = as_was ∙ before.0.same; kept = kept })

        after_rows : IsTrue (keepers.tells_stops old) → (keepers.tried new ≡ [])
            ⊎ ((keepers.tried new ≡ rows_of group ∷ [])
            ⊎ (keepers.tried new ≡ keepers.tried old))
        after_rows told =
            subst (λ (r : List Row). (keepers.tried new ≡ [])
            ⊎ ((keepers.tried new ≡ r ∷ []) ⊎ (keepers.tried new ≡ keepers.tried old))) is
            (after told)

    pub refused_adds : {E : Type 0} (error : E)
        → (IsTrue (keepers.tells_stops old) → (keepers.tried new ≡ [])
        ⊎ ((keepers.tried new ≡ added ∷ []) ⊎ (keepers.tried new ≡ keepers.tried old)))
        → IsTrue (keepers.tells_stops old)
        → Adding keepers {T = Unit {0}} (Err error) log group old new
    refused_adds error after told = record {
      telling = telling;
      tried_after =
          subst (λ (r : List Row). (keepers.tried new ≡ [])
          ⊎ ((keepers.tried new ≡ r ∷ []) ⊎ (keepers.tried new ≡ keepers.tried old))) is (after told);
      stops = stops-now told;
    }

  -- a command or a bulk whose group was asked to be kept: what it draws is that group
  module _ {F : Type 0} (judgement : Result Drawn F) (found drawn : Drawn)
      (is : judgement ≡ Ok found)
      (told : judgement ≡ Ok drawn)
      (items : History) (same : items ≡ found.group) (log : History) (old new : K) where
    drawn-group : items ≡ drawn.group
    drawn-group = same ∙ ap (λ (d : Drawn). d.group)
        (let e : ◌≡◌ {A = Result Drawn F} (Ok found) (Ok drawn) = sym is ∙ told in one e)
      where
        one : ◌≡◌ {A = Result Drawn F} (Ok found) (Ok drawn) → found ≡ drawn
        one e = cc (e)

    pub kept_drawn : {T U E G : Type 0} (result : Result U G) (done : U) (receipt : T) → result ≡ Ok done
        → Adding keepers result log items old new
        → Adding keepers {E = E} (Ok receipt) log drawn.group old new
    kept_drawn {T} {U} {E} {G} result done receipt so adding =
        subst (λ (g : History). Adding keepers {E = E} (Ok receipt) log g old new)
        drawn-group
        (kept_adding result done receipt log items old new so adding)

    pub refused_drawn : {T U E G : Type 0} (result : Result U G) (error : G) (refusal : E) → result ≡ Err error
        → Adding keepers result log items old new
        → Adding keepers {T = T} (Err refusal) log drawn.group old new
    refused_drawn {T} {U} {E} {G} result error refusal so adding =
        subst (λ (g : History). Adding keepers {T = T} (Err refusal) log g old new)
        drawn-group
        (refused_adding result error refusal log items old new so adding)

-- what is still as it was behind one call, and behind another
pub still-on : {K : Type 0} (tells : K → Bool) (first mid last : K) → (IsTrue (tells first) → mid ≡ first)
    → (IsTrue (tells mid) → last ≡ mid) → IsTrue (tells first) → last ≡ first
still-on {K} tells first mid last before then told =
    then (subst (λ (k : K). IsTrue (tells k)) (sym (before told)) told) ∙ before told

-- ---- what was tried in vain was counted

module _ {K : Type 0} (keepers : Keepers K) where
  -- of a keeper that is as it was when the book was opened
  pub counted_opened : (opened now : K) → now ≡ opened → CountsTried keepers opened now
  counted_opened opened now same = subst (λ (k : K). CountsTried keepers opened k) (sym same)
      (record { later = omega arith; counted = λ none. inl none })

  module _ (opened old new : K) (so_far : CountsTried keepers opened old) where
    -- an append was kept
    pub counted_kept : keepers.faults old ≤ keepers.faults new → keepers.tried new ≡ [] → CountsTried keepers opened new
    counted_kept later none = record {
      later = (let before = so_far.later in omega (arith, before, later));
      counted = λ first. inl none;
    }

    -- an append failed
    pub counted_failed : keepers.faults old ≤ keepers.faults new → Rises (keepers.faults old) (keepers.faults new)
        → CountsTried keepers opened new
    counted_failed later rose = record {
      later = (let before = so_far.later in omega (arith, before, later));
      counted = λ first. inr (λ below. let before = so_far.later in let more = rose below in omega (
        arith,
        before,
        more,
      ));
    }

    -- nothing was tried
    pub counted_still : new ≡ old → CountsTried keepers opened new
    counted_still same = subst (λ (k : K). CountsTried keepers opened k) (sym same) so_far
