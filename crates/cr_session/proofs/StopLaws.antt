-- SPDX-License-Identifier: Apache-2.0 OR MIT
-- What a stop may leave of a connection's groups, wish by wish.
use Rattle.std.proofs.Common.{◌≡◌, ◌∙◌, ◌≤◌, ◌⊎◌, ⊎_elim, inl, inr, ℕ, List, [], ◌∷◌, ◌++◌, Bool, true, false, Option}
use Rattle.std.proofs.Common.{Some, None, Ok, Err, IsTrue, refl, sym, ap, subst, arith, append-nil, append_assoc, cond}
use Rattle.std.specs.Bool.{⊤}
use Rattle.std.proofs.lemmas.List.{map-append}
use Rattle.cr_base.specs.declared.row.Row.{Row}
use Rattle.cr_base.specs.Drawn.{Drawn}
use Rattle.cr_base.specs.History.{History}
use Rattle.cr_base.specs.Rows.{row_of, rows_of}
use Rattle.cr_ports.specs.Stopping.{IsAmong, LeavesOnly, OpensTo}
use Rattle.cr_book.specs.Stopping.{Adding, Keepers}
use Rattle.cr_session.specs.Told.{drawn, and_drawn}
use Rattle.cr_session.specs.Replay.{JudgedWish, Ledger, Replays, history_after}
use Rattle.cr_session.specs.Tries.{Tries, TriesAlong, TriesWish, fate_of, tries_of}
use Rattle.cr_session.specs.Stopping.{IsLostGroup, KeepsWishesTold, OpensBehind, history_behind}

-- ---- the history after a turn

pub after-lost : (j : JudgedWish) → j.lost ≡ true → history_after j ≡ j.seen
unfolding history_after
after-lost j is = ap (λ b. cond b j.seen (and_drawn j.seen (drawn j.seen j.wish))) is

after-kept : (j : JudgedWish) (d : Option Drawn) → j.lost ≡ false → drawn j.seen j.wish ≡ d
    → history_after j ≡ and_drawn j.seen d
unfolding history_after
after-kept j d is drew =
    ap (λ b. cond b j.seen (and_drawn j.seen (drawn j.seen j.wish))) is ∙ ap (and_drawn j.seen) drew

-- where nothing is drawn, it stays
pub after-nothing : (j : JudgedWish) (lost : Bool) → j.lost ≡ lost
    → drawn j.seen j.wish ≡ None → history_after j ≡ j.seen
after-nothing j true is none = after-lost j is
after-nothing j false is none = after-kept j None is none

behind-last : (H : History) (js : List JudgedWish) (j : JudgedWish) → history_behind H (js ++ j ∷ []) ≡ history_after j
behind-last H [] j = refl
behind-last H (i ∷ is) j = behind-last (history_after i) is j

-- ---- more wishes

pub among-more : {T : Type 0} (xs ys : List T) (x : T) → IsAmong xs x → IsAmong (xs ++ ys) x
among-more [] ys x among = absurd among
among-more (y ∷ xs) ys x (inl is) = inl is
among-more (y ∷ xs) ys x (inr among) = inr (among-more xs ys x among)

among-last : {T : Type 0} (xs : List T) (x : T) → IsAmong (xs ++ x ∷ []) x
among-last [] x = inl refl
among-last (y ∷ xs) x = inr (among-last xs x)

lost-more : (js ks : List JudgedWish) (H group : History) → IsLostGroup js H group → IsLostGroup (js ++ ks) H group
lost-more js ks H group l = record {
  wish = l.wish;
  among = among-more js ks l.wish l.among;
  lost = l.lost;
  seen = l.seen;
  draws = l.draws;
  drew = l.drew;
  group_is = l.group_is;
}

module _ (opens : List ℕ → List Row → Type 0) (opening : History) where
  opens-more : (js ks : List JudgedWish) (image : List ℕ) → OpensBehind opens opening js image
      → OpensBehind opens opening (js ++ ks) image
  opens-more js ks image o = record {
    first = o.first;
    others = o.others ++ ks;
    parts = ap (λ (x : List JudgedWish). x ++ ks) o.parts ∙ append_assoc o.first o.others ks;
    opens_to =
        ⊎_elim (λ same. inl same) (λ more. inr (
          more.0,
          lost-more js ks (history_behind opening o.first) more.0 more.1,
          more.2,
        )) o.opens_to;
  }

  -- the rows of the history that these of them lead to
  opens-all : (js ks : List JudgedWish) (H : History) (image : List ℕ) → history_behind opening js ≡ H
      → opens image (rows_of H)
      → OpensBehind opens opening (js ++ ks) image
  opens-all js ks H image at o = record {
    first = js;
    others = ks;
    parts = refl;
    opens_to = inl (subst (λ (h : History). opens image (rows_of h)) (sym at) o);
  }

  -- or those and one group
  opens-group : (js ks : List JudgedWish) (H group : History) (image : List ℕ) → history_behind opening js ≡ H
      → IsLostGroup (js ++ ks) H group
      → opens image (rows_of (H ++ group)) → OpensBehind opens opening (js ++ ks) image
  opens-group js ks H group image at lost o = record {
    first = js;
    others = ks;
    parts = refl;
    opens_to = inr (
      group,
      subst (λ (h : History). IsLostGroup (js ++ ks) h group) (sym at) lost,
      subst (λ (h : History). opens image (rows_of (h ++ group))) (sym at) o,
    );
  }

-- behind the history's rows come those of the group
rows-behind : (opens : List ℕ → List Row → Type 0) (H group : History) (added : List Row) (image : List ℕ)
    → added ≡ rows_of group
    → opens image (rows_of H ++ added) → opens image (rows_of (H ++ group))
rows-behind opens H group added image is o =
    subst (λ (r : List Row). opens image r) (ap (λ (a : List Row). rows_of H ++ a) is ∙ sym (map-append row_of H group))
    o

-- ---- one wish behind another

module _ {K : Type 0} (keepers : Keepers K) (begun : ℕ) (opening : History) where
  abbrev tries : Tries K
  tries = tries_of keepers

  -- what is so of a keeper behind these wishes, which led to this history
  pub record KeptBehind (done : List JudgedWish) (H : History) (k : K) : Type 0 where
    pub at : history_behind opening done ≡ H
    pub later : begun ≤ keepers.moment k
    -- what was tried since the last that was kept are groups of wishes that were lost
    pub lost : (added : List Row) → IsAmong (keepers.tried k) added → (group : History) × IsLostGroup done H group
        × (added ≡ rows_of group)
    pub since : (image : List ℕ) → keepers.left_since k begun image → OpensBehind keepers.opens opening done image

  -- before the first of them
  pub kept-none : (k : K) → begun ≤ keepers.moment k → keepers.tried k ≡ []
      → ((image : List ℕ) → keepers.left_since k begun image
      → OpensTo keepers.opens (rows_of opening) (keepers.tried k) image)
      → KeptBehind [] opening k
  kept-none k later none between = record {
    at = refl;
    later = later;
    lost = λ added among. absurd (untried added among);
    since = λ image left. ⊎_elim (λ same. opens-all keepers.opens opening [] [] opening image refl same)
        (λ one. absurd (untried one.0 one.1)) (between image left);
  }
    where
      untried : (added : List Row) → IsAmong (keepers.tried k) added → ⊥
      untried added among = subst (λ (l : List (List Row)). IsAmong l added) none among

  module _ (done : List JudgedWish) (H : History) (k k' : K) (kept : KeptBehind done H k) where
    -- a group that was tried and not kept before
    lost-before : (ks : List JudgedWish) (H' : History) → H' ≡ H → (added : List Row) → IsAmong (keepers.tried k) added
        → (group : History) × IsLostGroup (done ++ ks) H' group × (added ≡ rows_of group)
    lost-before ks H' same added among =
        let l = kept.lost added among in
        (l.0, subst (λ (h : History). IsLostGroup (done ++ ks) h l.0) (sym same) (lost-more done ks H l.0 l.1), l.2)

    -- what a stop leaves while a group is put behind the history
    module _ (ks : List JudgedWish) (d : Drawn)
        (own : (image : List ℕ) → keepers.opens image (rows_of (H ++ d.group))
        → OpensBehind keepers.opens opening (done ++ ks) image)
        (stops : LeavesOnly keepers.moment keepers.left_since k k'
        (OpensTo keepers.opens (rows_of H) (rows_of d.group ∷ keepers.tried k))) where
      one-more : (image : List ℕ) (added : List Row) → IsAmong (rows_of d.group ∷ keepers.tried k) added
          → keepers.opens image (rows_of H ++ added)
          → OpensBehind keepers.opens opening (done ++ ks) image
      one-more image added (inl is) o = own image (rows-behind keepers.opens H d.group added image is o)
      one-more image added (inr there) o =
          let l = kept.lost added there in
          opens-group keepers.opens opening done ks H l.0 image kept.at (lost-more done ks H l.0 l.1)
          (rows-behind keepers.opens H l.0 added image l.2 o)

      since-then : (image : List ℕ) → keepers.left_since k' begun image
          → OpensBehind keepers.opens opening (done ++ ks) image
      since-then image left =
          ⊎_elim (λ before. opens-more keepers.opens opening done ks image (kept.since image before))
          (λ now. ⊎_elim (λ same. opens-all keepers.opens opening done ks H image kept.at same)
          (λ one. one-more image one.0 one.1 one.2) now)
          (stops.before begun image kept.later left)

    -- a wish that draws nothing
    kept-nothing : (j : JudgedWish) (H' : History) → history_after j ≡ H' → H' ≡ H → k' ≡ k
        → KeptBehind (done ++ j ∷ []) H' k'
    kept-nothing j H' at same still =
        subst (λ (x : K). KeptBehind (done ++ j ∷ []) H' x) (sym still) (record {
          at = behind-last opening done j ∙ at;
          later = kept.later;
          lost = lost-before (j ∷ []) H' same;
          since = λ image left. opens-more keepers.opens opening done (j ∷ []) image (kept.since image left);
        })

    -- one whose group was lost
    kept-lost : (j : JudgedWish) (d : Drawn) (H' : History) → j.lost ≡ true → j.seen ≡ H → drawn H j.wish ≡ Some d
        → history_after j ≡ H' → H' ≡ H
        → Adding keepers {T = ⊤} {E = ⊤} (Err tt) H d.group k k'
        → KeptBehind (done ++ j ∷ []) H' k'
    kept-lost j d H' lost seen draws at same a = record {
      at = behind-last opening done j ∙ at;
      later = (let before = kept.later in let more = a.stops.later in omega (arith, before, more));
      lost = λ added among. by added among a.tried_after;
      since =
          since-then (j ∷ []) d
          (λ image o. opens-group keepers.opens opening done (j ∷ []) H d.group image kept.at (its H refl)
          o) a.stops;
    }
      where
        its : (h : History) → h ≡ H → IsLostGroup (done ++ j ∷ []) h d.group
        its h is = record {
          wish = j;
          among = among-last done j;
          lost = lost;
          seen = seen ∙ sym is;
          draws = d;
          drew = ap (λ (x : History). drawn x j.wish) is ∙ draws;
          group_is = refl;
        }

        by : (added : List Row) → IsAmong (keepers.tried k') added
            → (keepers.tried k' ≡ [])
            ⊎ ((keepers.tried k' ≡ rows_of d.group ∷ []) ⊎ (keepers.tried k' ≡ keepers.tried k))
            → (group : History) × IsLostGroup (done ++ j ∷ []) H' group × (added ≡ rows_of group)
        by added among (inl none) = absurd (subst (λ (l : List (List Row)). IsAmong l added) none among)
        by added among (inr (inl one)) = (
          d.group,
          its H' same,
          ⊎_elim (λ is. is) (λ none. absurd none)
              (subst (λ (l : List (List Row)). IsAmong l added) one among),
        )
        by added among (inr (inr as_was)) =
            lost-before (j ∷ []) H' same added (subst (λ (l : List (List Row)). IsAmong l added) as_was among)

    -- one whose group was kept
    kept-added : (j : JudgedWish) (d : Drawn) (H' : History) → history_after j ≡ H' → H' ≡ H ++ d.group
        → Adding keepers {T = ⊤} {E = ⊤} (Ok tt) H d.group k k'
        → KeptBehind (done ++ j ∷ []) H' k'
    kept-added j d H' at adds a = record {
      at = behind-last opening done j ∙ at;
      later = (let before = kept.later in let more = a.stops.later in omega (arith, before, more));
      lost = λ added among. absurd (subst (λ (l : List (List Row)). IsAmong l added) a.tried_after among);
      since = since-then (j ∷ []) d whole a.stops;
    }
      where
        whole : (image : List ℕ) → keepers.opens image (rows_of (H ++ d.group))
            → OpensBehind keepers.opens opening (done ++ j ∷ []) image
        whole image o =
            subst (λ (js : List JudgedWish). OpensBehind keepers.opens opening js image) (append-nil (done ++ j ∷ []))
            (opens-all keepers.opens opening (done ++ j ∷ []) [] H' image (behind-last opening done j ∙ at)
            (subst (λ (h : History). keepers.opens image (rows_of h)) (sym adds) o))

    -- by whether it was lost, and by what it draws
    kept-wish : (j : JudgedWish) (lost : Bool) (d : Option Drawn) → IsTrue (keepers.tells_stops k) → j.lost ≡ lost
        → j.seen ≡ H
        → drawn H j.wish ≡ d → tries H (fate_of lost d) k k'
        → KeptBehind (done ++ j ∷ []) (history_after j) k'
    kept-wish j lost None told is seen draws did =
        kept-nothing j (history_after j) refl
        (after-nothing j lost is (ap (λ (h : History). drawn h j.wish) seen ∙ draws) ∙ seen) (did told)
    kept-wish j true (Some d) told is seen draws did =
        kept-lost j d (history_after j) is seen draws refl (after-lost j is ∙ seen) (did told)
    kept-wish j false (Some d) told is seen draws did =
        kept-added j d (history_after j) refl
        (after-kept j (Some d) is (ap (λ (h : History). drawn h j.wish) seen ∙ draws)
        ∙ ap (λ (h : History). h ++ d.group) seen) (did told)

  -- a wish as it was judged
  kept-judged : (done : List JudgedWish) (H : History) (k k' : K) → IsTrue (keepers.tells_stops k) → KeptBehind done H k
      → (j : JudgedWish) → j.seen ≡ H
      → TriesWish tries j k k' → KeptBehind (done ++ j ∷ []) (history_after j) k'
  kept-judged done H k k' told kept j seen did =
      kept-wish done H k k' kept j j.lost (drawn H j.wish) told refl seen refl
      (subst (λ (h : History). tries h (fate_of j.lost (drawn h j.wish)) k k') seen did)

  -- behind a turn the keeper tells as it did what a stop leaves
  tells-on : (lost : Bool) (H : History) (d : Option Drawn) (k k' : K) → IsTrue (keepers.tells_stops k)
      → tries H (fate_of lost d) k k' → IsTrue (keepers.tells_stops k')
  tells-on lost H None k k' told did = subst (λ (x : K). IsTrue (keepers.tells_stops x)) (sym (did told)) told
  tells-on true H (Some d) k k' told did = (did told).telling ∙ told
  tells-on false H (Some d) k k' told did = (did told).telling ∙ told

  pub tells-along : (js : List JudgedWish) (k k' : K) → IsTrue (keepers.tells_stops k) → TriesAlong tries js k k'
      → IsTrue (keepers.tells_stops k')
  tells-along [] k k' told t = subst (λ (x : K). IsTrue (keepers.tells_stops x)) (sym t) told
  tells-along (j ∷ js) k k' told t =
      tells-along js t.0 k' (tells-on j.lost j.seen (drawn j.seen j.wish) k t.0 told t.1) t.2

  -- and all of them
  pub kept-along : (js done : List JudgedWish) (b b' : Ledger) (k k' : K) → IsTrue (keepers.tells_stops k)
      → KeptBehind done
      b.history k
      → Replays js b b'
      → TriesAlong tries js k k' → KeptBehind (done ++ js) b'.history k'
  kept-along [] done b b' k k' told kept r t =
      subst (λ (x : List JudgedWish). KeptBehind x b'.history k') (sym (append-nil done))
      (subst (λ (x : K). KeptBehind done b'.history x) (sym t)
      (subst (λ (l : Ledger). KeptBehind done l.history k) (sym r) kept))
  kept-along (j ∷ js) done b b' k k' told kept r t =
      let here = kept-judged done b.history k t.0 told kept j r.1.seen t.1 in
      subst (λ (x : List JudgedWish). KeptBehind x b'.history k') (append_assoc done (j ∷ []) js)
      (kept-along js (done ++ j ∷ []) r.0 b' t.0 k' (tells-on j.lost j.seen (drawn j.seen j.wish) k t.0 told t.1)
      (subst (λ (h : History). KeptBehind (done ++ j ∷ []) h t.0) (sym r.1.history) here) r.2 t.2)

-- over a keeper that is as it was
pub wishes-none : {K : Type 0} (keepers : Keepers K) (k : K) (opening last : History)
    (judged : List JudgedWish)
    → KeepsWishesTold keepers k k opening last judged
wishes-none keepers k opening last judged told none between = record {
  since = λ image left.
      opens-more keepers.opens opening [] judged image
      ((kept-none keepers (keepers.moment k) opening k (omega arith) none between).since image
      left);
  lost = λ added among. absurd (subst (λ (l : List (List Row)). IsAmong l added) none among);
}
