-- SPDX-License-Identifier: Apache-2.0 OR MIT
-- A run of each history that may be its end: each wish of the group's stands in it as it was, and between them what
-- others did by that history.
use Rattle.std.proofs.Common.{ℕ, Bool, true, false, ◌≡◌, ◌||◌, suc, List, [], ◌∷◌, ◌++◌, length, refl, sym, ap}
use Rattle.std.proofs.Common.{subst, ◌∙◌, cond, Option, Some, None, append-nil, append_assoc, length-append, map}
use Rattle.std.specs.Prelude.{take, drop, ◌==◌}
use Rattle.std.specs.List.{AllByRecursion, Contains, list_any}
use Rattle.std.proofs.Math.Seq.{take-append_seam, take-add, take-length}
use Rattle.std.proofs.lemmas.Bool.{true≢false, or_parts, or_left, or_right}
use Rattle.std.proofs.lemmas.List.{take-append-drop, append_cancel_left}
use Rattle.std.proofs.lemmas.List.Elements.{All-weaker, All-contains_itself}
use Rattle.cr_base.specs.declared.entry.Entry.{Entry}
use Rattle.cr_base.specs.declared.entry.Entry.TheVariants as entries
use Rattle.cr_base.specs.declared.entry.Stamp.{Stamp}
use Rattle.cr_base.specs.declared.entry.Stamped.{Stamped}
use Rattle.cr_base.specs.Drawn.{Drawn, grouped}
use Rattle.cr_base.specs.History.{History, Registration, all_told, caller_told, registration_told}
use Rattle.cr_base.specs.HistoryFacts.{accounts_of}
use Rattle.cr_base.specs.Lists.{given, is_number, is_nothing, last}
use Rattle.cr_history.specs.Invariants.{IsRegistered}
use Rattle.cr_policy.specs.Legal.{Legal}
use Rattle.cr_policy.specs.View.{view}
use Rattle.cr_policy.proofs.LegalLaws.{Legal-whole}
use Rattle.cr_undeduced.specs.Undeducible.{Look, seen_at}
use Rattle.cr_bodies.specs.declared.credentials.Credentials.{Credentials}
use Rattle.cr_wire.specs.declared.what.Wish.{Wish}
use Rattle.cr_wire.specs.Caller.{caller, wants_login, user_told}
use Rattle.cr_session.specs.Told.{drawn, and_drawn, after_wish}
use Rattle.cr_session.specs.Turning.{IsBoundedWish}
use Rattle.cr_session.specs.TwoRuns.{WishInTurn, is_same}
use Rattle.cr_session.proofs.Accepting.{wish-draws}
use Rattle.cr_session.proofs.Repeating.{WishAdds, wish-adds}
use Rattle.cr_laws.specs.GroupRuns.{is_theirs, exchange}
use Rattle.cr_laws.specs.AnotherRun.{looks_of, end_of, is_made_by, AnotherRun}
use Rattle.cr_laws.specs.RunsEndSo.{registers, is_kept, StandsFor, AllStandFor, RunsEndSo}
use Rattle.cr_laws.proofs.Cuts.{is_cut, whole-uncut, IsOneCommand, grouped-one, CutAt, cut-at, NextMove, next-move}
use Rattle.cr_laws.proofs.LogIns.{not-next}
use Rattle.cr_laws.proofs.Movers.{IsRegistration, registration-one, registration-maker, registration-registers}
use Rattle.cr_laws.proofs.Movers.{registration-same, GivenBy, by_user, by_nobody, wish-given, Wished, move-wished}
use Rattle.cr_laws.proofs.OtherRuns.{InPlace, stays, left-out, replaced, another, after-grows, ends-grow}
use Rattle.cr_laws.proofs.TheirWishes.{one-of, draws-same, exchange-same}

-- ---- place by place

module _ (group : List (Option ℕ)) where
  pub stand-length : (H E : History) → AllStandFor group H E → length E ≡ length H
  stand-length [] [] stand = refl
  stand-length [] (e ∷ E) stand = absurd stand
  stand-length (e ∷ H) [] stand = absurd stand
  stand-length (e ∷ H) (other ∷ E) stand = ap suc (stand-length H E stand.1)

  -- at the front, and behind it
  pub stand-front : (H g E : History) → AllStandFor group (H ++ g) E → AllStandFor group H (take (length H) E)
  stand-front [] g [] stand = tt
  stand-front [] g (e ∷ E) stand = tt
  stand-front (e ∷ H) g [] stand = absurd stand
  stand-front (e ∷ H) g (other ∷ E) stand = (stand.0, stand-front H g E stand.1)

  pub stand-behind : (H g E : History) → AllStandFor group (H ++ g) E → AllStandFor group g (drop (length H) E)
  stand-behind [] g [] stand = stand
  stand-behind [] g (e ∷ E) stand = stand
  stand-behind (e ∷ H) g [] stand = absurd stand
  stand-behind (e ∷ H) g (other ∷ E) stand = stand-behind H g E stand.1

  -- commands end in the same places
  cut-same : (H E : History) → AllStandFor group H E → is_cut E ≡ is_cut H
  cut-same [] [] stand = refl
  cut-same [] (e ∷ E) stand = absurd stand
  cut-same (e ∷ H) [] stand = absurd stand
  cut-same (e ∷ []) (other ∷ []) stand = sym stand.0.more
  cut-same (e ∷ []) (other ∷ next ∷ E) stand = absurd stand.1
  cut-same (e ∷ next ∷ H) (other ∷ []) stand = absurd stand.1
  cut-same (e ∷ next ∷ H) (other ∷ then ∷ E) stand = cut-same (next ∷ H) (then ∷ E) stand.1

  one-length : (g g' m m' : History) → IsOneCommand g → IsOneCommand g' → AllStandFor group (g ++ m) (g' ++ m')
      → length g ≡ length g'
  one-length [] g' m m' one one' stand = absurd one
  one-length (e ∷ g) [] m m' one one' stand = absurd one'
  one-length (e ∷ []) (other ∷ []) m m' one one' stand = refl
  one-length (e ∷ []) (other ∷ next ∷ g') m m' one one' stand =
      absurd (true≢false (sym one'.0 ∙ sym stand.0.more ∙ one))
  one-length (e ∷ next ∷ g) (other ∷ []) m m' one one' stand =
      absurd (true≢false (sym one.0 ∙ stand.0.more ∙ one'))
  one-length (e ∷ next ∷ g) (other ∷ then ∷ g') m m' one one' stand =
      ap suc (one-length (next ∷ g) (then ∷ g') m m' one.1 one'.1 stand.1)

  -- what registrations alone tell is told of both
  module _ {A : Type 0} (told : Entry → List A)
      (alone : (e : Entry) → registers e ≡ false → told e ≡ []) where
    told-one : (e other : Stamped) → StandsFor group e other → told other.entry ≡ told e.entry
    told-one e other stands = by (is_kept group e || is_kept group other) refl
      where
        by : (b : Bool) → (is_kept group e || is_kept group other) ≡ b → told other.entry ≡ told e.entry
        by true is = ap (λ (x : Stamped). told x.entry) (sym (stands.same is))
        by false is =
            let parts = or_parts (is_kept group e) (is_kept group other) is in
            alone other.entry (or_parts (is_made_by group other) (registers other.entry) parts.1).1
            ∙ sym (alone e.entry (or_parts (is_made_by group e) (registers e.entry) parts.0).1)

    told-same : (H E : History) → AllStandFor group H E → all_told told E ≡ all_told told H
    told-same [] [] stand = refl
    told-same [] (e ∷ E) stand = absurd stand
    told-same (e ∷ H) [] stand = absurd stand
    told-same (e ∷ H) (other ∷ E) stand = λ i. told-one e other stand.0 i ++ told-same H E stand.1 i

  caller-alone : (name digest : List ℕ) (e : Entry) → registers e ≡ false → caller_told name digest e ≡ []
  caller-alone name digest (entries.Registered user own kept) is = absurd (true≢false is)
  caller-alone name digest e is = refl

  registration-alone : (e : Entry) → registers e ≡ false → registration_told e ≡ []
  registration-alone (entries.Registered user own kept) is = absurd (true≢false is)
  registration-alone e is = refl

  registered-same : (H E : History) → AllStandFor group H E → (user : ℕ) → IsRegistered H user → IsRegistered E user
  registered-same H E stand user is =
      ap (λ (rs : List Registration). list_any (λ (r : Registration). r.user == user) rs)
      (told-same registration_told registration-alone H E stand) ∙ is

  registered-back : (H E : History) → AllStandFor group H E → (user : ℕ) → IsRegistered E user → IsRegistered H user
  registered-back H E stand user is =
      ap (λ (rs : List Registration). list_any (λ (r : Registration). r.user == user) rs)
      (sym (told-same registration_told registration-alone H E stand)) ∙ is

  user_told-same : (H E : History) → AllStandFor group H E → (told : Option Credentials)
      → user_told told E ≡ user_told told H
  user_told-same H E stand None = refl
  user_told-same H E stand (Some c) =
      ap (λ (users : List ℕ). last users)
      (told-same (caller_told c.name c.digest) (caller-alone c.name c.digest) H E stand)

  pub caller-same : (H E : History) → AllStandFor group H E → (w : Wish) → caller E w ≡ caller H w
  caller-same H E stand w = ap (λ (u : Option ℕ). cond (wants_login w.what) u None)
      (user_told-same H E stand w.credentials)

  -- ---- what is the group's

  -- what one of them made is the same in both
  made-same : (user : ℕ) → list_any (λ v. is_number v user) group ≡ true → (g E : History)
      → AllByRecursion (λ (e : Stamped). e.stamp.maker ≡ user) g → AllStandFor group g E → E ≡ g
  made-same user among [] [] made stand = refl
  made-same user among [] (e ∷ E) made stand = absurd stand
  made-same user among (e ∷ g) [] made stand = absurd stand
  made-same user among (e ∷ g) (other ∷ E) made stand =
      λ i. sym (stand.0.same (or_left (is_kept group e) (is_kept group other)
      (or_left (is_made_by group e) (registers e.entry)
      (ap (λ (n : ℕ). list_any (λ v. is_number v n) group) made.0 ∙ among)))) i
      ∷ made-same user among g E made.1 stand.1 i

  -- what another did is another's in both
  module _ (H E : History) (legal : Legal H) (legal' : Legal E) (stand : AllStandFor group H E) where
    -- what registers somebody in the one is no user's in the other
    not-both : (e other : Stamped) → StandsFor group e other → (g : History) (v : ℕ) → IsRegistration H (e ∷ g)
        → IsRegistered E v → other.stamp.maker ≡ v → ⊥
    not-both e other stands g v new entered gave =
        let same : e ≡ other = stands.same (or_left (is_kept group e) (is_kept group other)
        (or_right (is_made_by group e) (registers e.entry) (registration-registers H e g new))) in
        not-next H legal v (registered-back H E stand v entered)
        (sym gave ∙ ap (λ (x : Stamped). x.stamp.maker) (sym same) ∙ registration-maker H e g new)

    -- both have an account, or none
    nothing-mapped : {A B : Type 0} (f : A → B) (xs : List A) → is_nothing (map f xs) ≡ is_nothing xs
    nothing-mapped f [] = refl
    nothing-mapped f (x ∷ xs) = refl

    nothing-same : is_nothing (accounts_of H) ≡ is_nothing (accounts_of E)
    nothing-same =
        nothing-mapped _ (all_told registration_told H)
        ∙ ap (λ (rs : List Registration). is_nothing rs) (sym (told-same registration_told registration-alone H E stand))
        ∙ sym (nothing-mapped _ (all_told registration_told E))

    -- so a registration is the same in both
    new-same : (g g' n n' : History) (m : Option ℕ) → IsOneCommand g' → AllStandFor group (g ++ n) (g' ++ n')
        → IsRegistration H g → GivenBy E m g' → g' ≡ g
    new-same [] g' n n' m one' stands new by' = absurd (registration-one H [] new)
    new-same (e ∷ g) [] n n' m one' stands new by' = absurd one'
    new-same (e ∷ g) (other ∷ g') n n' m one' stands new (by_user v is entered gave) =
        absurd (not-both e other stands.0 g v new entered gave.0)
    new-same (e ∷ g) (other ∷ g') n n' m one' stands new (by_nobody is also) =
        sym (registration-same H E e other g g' new also nothing-same
        (stands.0.same (or_left (is_kept group e) (is_kept group other)
        (or_right (is_made_by group e) (registers e.entry) (registration-registers H e g new)))))

    others-first : (e other : Stamped) → StandsFor group e other → (c m : Option ℕ) (g g' : History)
        → GivenBy H c (e ∷ g) → GivenBy E m (other ∷ g') → list_any (λ v. is_same v c) group ≡ false
        → list_any (λ v. is_same v m) group ≡ false
    others-first e other stands c m g g' (by_user user at registered made) (by_user v is entered gave) others =
        by (is_made_by group other) refl
      where
        by : (b : Bool) → is_made_by group other ≡ b → list_any (λ u. is_same u m) group ≡ false
        by false not_made =
            ap (λ (o : Option ℕ). list_any (λ u. is_same u o) group) is ∙ one-of group v
            ∙ ap (λ (n : ℕ). list_any (λ u. is_number u n) group) (sym gave.0) ∙ not_made
        by true theirs =
            let same : e ≡ other = stands.same (or_right (is_kept group e) (is_kept group other)
            (or_left (is_made_by group other) (registers other.entry) theirs)) in
            absurd (true≢false (sym theirs ∙ ap (is_made_by group) (sym same)
            ∙ ap (λ (n : ℕ). list_any (λ u. is_number u n) group) made.0 ∙ sym (one-of group user)
            ∙ ap (λ (o : Option ℕ). list_any (λ u. is_same u o) group) (sym at) ∙ others))
    others-first e other stands c m g g' (by_nobody at new) (by_user v is entered gave) others =
        by (is_made_by group other) refl
      where
        by : (b : Bool) → is_made_by group other ≡ b → list_any (λ u. is_same u m) group ≡ false
        by false not_made =
            ap (λ (o : Option ℕ). list_any (λ u. is_same u o) group) is ∙ one-of group v
            ∙ ap (λ (n : ℕ). list_any (λ u. is_number u n) group) (sym gave.0) ∙ not_made
        by true theirs = absurd (not-both e other stands g v new entered gave.0)
    others-first e other stands c m g g' (by_user user at registered made) (by_nobody is new) others =
        let same : e ≡ other = stands.same (or_right (is_kept group e) (is_kept group other)
        (or_right (is_made_by group other) (registers other.entry) (registration-registers E other g' new))) in
        absurd (not-next E legal' user (registered-same H E stand user registered)
        (sym made.0 ∙ ap (λ (x : Stamped). x.stamp.maker) same ∙ registration-maker E other g' new))
    others-first e other stands c m g g' (by_nobody at new) (by_nobody is also) others =
        ap (λ (o : Option ℕ). list_any (λ u. is_same u o) group) (is ∙ sym at) ∙ others

    others-both : (g g' n n' : History) (c m : Option ℕ) → IsOneCommand g → IsOneCommand g'
        → AllStandFor group (g ++ n) (g' ++ n') → GivenBy H c g → GivenBy E m g'
        → list_any (λ v. is_same v c) group ≡ false → list_any (λ v. is_same v m) group ≡ false
    others-both [] g' n n' c m one one' stands by by' others = absurd one
    others-both (e ∷ g) [] n n' c m one one' stands by by' others = absurd one'
    others-both (e ∷ g) (other ∷ g') n n' c m one one' stands by by' others =
        others-first e other stands.0 c m g g' by by' others

-- ---- wish by wish

module _ (group : List (Option ℕ)) (G end : History) (ended : Legal end) (places : AllStandFor group G end) where
  abbrev made : History → History
  made H = take (length H) end

  abbrev SeesAlike : Look → Type 0
  SeesAlike look = seen_at G look ≡ seen_at end look

  -- what is ahead of a place where a command ends
  pub cut-made : (H g : History) → G ≡ H ++ g → Legal H → CutAt (made H) end
  cut-made H g is legal =
      cut-at end (made H) (drop (length H) end) ended (sym (take-append-drop (length H) end))
      (cut-same group H (made H) (stand-front group H g end (subst (λ (K : History). AllStandFor group K end) is places))
      ∙ whole-uncut H (Legal-whole H legal))

  module _ (H : History) (legal : Legal H) (legal' : Legal (made H)) (w : WishInTurn) (bounds : IsBoundedWish w.wish)
      (more : History) (ends : G ≡ after_wish H w.wish ++ more) where
    begins : (g : History) × (G ≡ H ++ g)
    begins =
        let grown = after-grows H w.wish in
        (grown.0 ++ more, ends ∙ ap (λ (K : History). K ++ more) grown.1 ∙ append_assoc H grown.0 more)

    stand : AllStandFor group H (made H)
    stand = stand-front group H begins.0 end (subst (λ (K : History). AllStandFor group K end) begins.1 places)

    -- where it draws this, that stands behind
    drawn-behind : (d : Drawn) → drawn H w.wish ≡ Some d → G ≡ H ++ (d.group ++ more)
    drawn-behind d is =
        ends ∙ ap (λ (o : Option Drawn). and_drawn H o ++ more) is ∙ append_assoc H d.group more

    stand-drawn : (d : Drawn) → drawn H w.wish ≡ Some d → AllStandFor group (d.group ++ more) (drop (length H) end)
    stand-drawn d is =
        stand-behind group H (d.group ++ more) end
        (subst (λ (K : History). AllStandFor group K end) (drawn-behind d is) places)

    made-drawn : (d : Drawn) → made (H ++ d.group) ≡ made H ++ take (length d.group) (drop (length H) end)
    made-drawn d = ap (λ n. take n end) (length-append H d.group) ∙ take-add (length H) (length d.group) end

    -- what comes next there, where it draws something
    record NextThere (d : Drawn) : Type 0 where
      next : NextMove (made H) end
      wished : Wished (made H) legal' next.group
      both : AllStandFor group (d.group ++ more) (next.group ++ next.rest)
      same : take (length d.group) (drop (length H) end) ≡ next.group

    next-first : (d : Drawn) → drawn H w.wish ≡ Some d → IsOneCommand d.group → (b : Stamped) (B : History)
        → drop (length H) end ≡ b ∷ B → NextThere d
    next-first d is one b B first =
        let cut : CutAt (made H) end = cut-made H begins.0 begins.1 legal in
        let next : NextMove (made H) end =
        next-move (made H) cut.moves end cut.legal cut.leads b B
        (sym (take-append-drop (length H) end) ∙ ap (λ (g : History). made H ++ g) first) in
        let rest : drop (length H) end ≡ next.group ++ next.rest =
        append_cancel_left (made H) (drop (length H) end) (next.group ++ next.rest)
        (take-append-drop (length H) end ∙ next.is ∙ append_assoc (made H) next.group next.rest) in
        let both : AllStandFor group (d.group ++ more) (next.group ++ next.rest) =
        subst (λ (E : History). AllStandFor group (d.group ++ more) E) rest (stand-drawn d is) in
        record {
          next = next;
          wished = move-wished (made H) legal' end next;
          both = both;
          same = ap (take (length d.group)) rest
              ∙ ap (λ n. take n (next.group ++ next.rest))
              (one-length group d.group next.group more next.rest one next.one both)
              ∙ take-append_seam next.group next.rest;
        }

    next-there : (d : Drawn) → drawn H w.wish ≡ Some d → IsOneCommand d.group → (E : History)
        → drop (length H) end ≡ E → AllStandFor group (d.group ++ more) E → NextThere d
    next-there d is one [] at stands = absurd (none d.group one stands)
      where
        none : (g : History) → IsOneCommand g → AllStandFor group (g ++ more) [] → ⊥
        none [] one stands = one
        none (e ∷ g) one stands = stands
    next-there d is one (b ∷ B) at stands = next-first d is one b B at

    theirs-stay : is_theirs group H w.wish ≡ true → SeesAlike (record { who = caller H w.wish; upto = length H })
        → InPlace group made H w
    theirs-stay theirs sees =
        stays group made H w bounds whose
        (ap (and_drawn (made H)) (draws-same H (made H) w whose seen) ∙ by (drawn H w.wish) refl)
        (exchange-same H (made H) w whose seen)
      where
        whose : caller (made H) w.wish ≡ caller H w.wish
        whose = caller-same group H (made H) stand w.wish

        seen : view (caller H w.wish) H ≡ view (caller H w.wish) (made H)
        seen = ap (view (caller H w.wish)) (sym (ap (take (length H)) begins.1 ∙ take-append_seam H begins.0)) ∙ sees

        -- what it adds is the same there
        same-there : (d : Drawn) → drawn H w.wish ≡ Some d → GivenBy H (caller H w.wish) d.group
            → take (length d.group) (drop (length H) end) ≡ d.group
        same-there d is (by_user user at registered gave) =
            made-same group user
            (sym (one-of group user) ∙ ap (λ (u : Option ℕ). list_any (λ v. is_same v u) group) (sym at) ∙ theirs)
            d.group (take (length d.group) (drop (length H) end)) gave
            (stand-front group d.group more (drop (length H) end) (stand-drawn d is))
        same-there d is (by_nobody at new) =
            let there : NextThere d =
            next-there d is (registration-one H d.group new) (drop (length H) end) refl (stand-drawn d is) in
            there.same
            ∙ new-same group H (made H) legal legal' stand d.group there.next.group more there.next.rest
            (caller (made H) there.wished.wish) there.next.one there.both new there.wished.by

        by : (o : Option Drawn) → drawn H w.wish ≡ o → and_drawn (made H) o ≡ made (and_drawn H o)
        by None is = refl
        by (Some d) is =
            ap (λ (g : History). made H ++ g)
            (sym (same-there d is (wish-given H legal w.wish d bounds (wish-draws H w.wish d is))))
            ∙ sym (made-drawn d)

    module _ (others : is_theirs group H w.wish ≡ false) (d : Drawn) (is : drawn H w.wish ≡ Some d) where
      -- nothing is added
      adds-nothing : d.group ≡ [] → InPlace group made H w
      adds-nothing none = record {
        wishes = [];
        bounds = tt;
        after = ap made (sym (ap (λ (o : Option Drawn). and_drawn H o) is ∙ ap (λ (g : History). H ++ g) none
            ∙ append-nil H));
        hears = ap (λ (b : Bool). given b (exchange H w)) (sym others);
      }

      adds-one : IsOneCommand d.group → InPlace group made H w
      adds-one one =
          let there : NextThere d = next-there d is one (drop (length H) end) refl (stand-drawn d is) in
          let wished : Wished (made H) legal' there.next.group = there.wished in
          replaced group made H w others d is wished.wish wished.within
          (others-both group H (made H) legal legal' stand d.group there.next.group more there.next.rest
          (caller H w.wish) (caller (made H) wished.wish) one there.next.one there.both
          (wish-given H legal w.wish d bounds (wish-draws H w.wish d is)) wished.by others)
          wished.again wished.draws
          (ap (λ (g : History). made H ++ g) (wished.group ∙ sym there.same) ∙ sym (made-drawn d))

      filled : InPlace group made H w
      filled =
          let adds : WishAdds H w.wish (caller H w.wish) d =
          wish-adds H legal d w.wish bounds (caller H w.wish) (wish-draws H w.wish d is) in
          by adds.stamp adds.entries adds.group_is
        where
          by : (stamp : Stamp) (es : List Entry) → d.group ≡ grouped stamp es → InPlace group made H w
          by stamp [] none = adds-nothing none
          by stamp (e ∷ es) same =
              adds-one (subst IsOneCommand (sym same) (grouped-one stamp e es))

    pub in-place : (is_theirs group H w.wish ≡ true → SeesAlike (record { who = caller H w.wish; upto = length H }))
        → InPlace group made H w
    in-place sees = by (is_theirs group H w.wish) (drawn H w.wish) refl refl
      where
        by : (b : Bool) (o : Option Drawn) → is_theirs group H w.wish ≡ b → drawn H w.wish ≡ o
            → InPlace group made H w
        by true o theirs is = theirs-stay theirs (sees theirs)
        by false None others is = left-out group made H w others is
        by false (Some d) others is = filled others d is

-- ---- the law

pub runs_end_so : RunsEndSo
runs_end_so group one end legal bounds may =
    subst (λ (K : History). AnotherRun group one K) whole
    (another group (made group (end_of one) end may.legal may.places)
    (SeesAlike group (end_of one) end may.legal may.places) (end_of one)
    (in-place group (end_of one) end may.legal may.places) one.opening one.wishes legal
    (cut-made group (end_of one) end may.legal may.places one.opening grown.0 grown.1 legal).legal bounds refl
    (All-weaker (Contains looks) (SeesAlike group (end_of one) end may.legal may.places) may.looks looks
    (All-contains_itself looks))
    (stand-length group one.opening (take (length one.opening) end)
    (stand-front group one.opening grown.0 end
    (subst (λ (K : History). AllStandFor group K end) grown.1 may.places)))
    (sym (ap (take (length one.opening)) whole)))
  where
    looks : List Look
    looks = looks_of group one.opening one.wishes

    grown : (g : History) × (end_of one ≡ one.opening ++ g)
    grown = ends-grow one.opening one.wishes

    whole : take (length (end_of one)) end ≡ end
    whole = ap (λ n. take n end) (sym (stand-length group (end_of one) end may.places)) ∙ take-length end
