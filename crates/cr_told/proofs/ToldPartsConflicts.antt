-- SPDX-License-Identifier: Apache-2.0 OR MIT
-- Of conflicts each part that is shown is told or left out.
use Rattle.std.proofs.Common.{◌≡◌, ℕ, Bool, true, false, List, [], ◌∷◌, ◌++◌, refl, sym, ap, subst, ◌∙◌, ◌||◌, ◌&&◌}
use Rattle.std.proofs.Common.{Option, Some, eqb, arith}
use Rattle.std.specs.Prelude.{not, map, filter, ◌==◌, IsTrue, unwrap_or, if◌then◌else◌}
use Rattle.std.specs.Option.{option_map}
use Rattle.std.specs.List.{flat_map, list_any}
use Rattle.std.proofs.lemmas.Bool.{true≢false, eq-eqb, and_parts, not-true}
use Rattle.cr_base.specs.declared.entry.Entry.TheVariants.{Conflict}
use Rattle.cr_base.specs.declared.entry.EntryKind.TheVariants as kinds
use Rattle.cr_base.specs.declared.entry.Stamp.{Stamp}
use Rattle.cr_base.specs.declared.entry.Stamped.{Stamped}
use Rattle.cr_base.specs.declared.me.Me.{Me}
use Rattle.cr_base.specs.declared.reply.AccountLine.{AccountLine}
use Rattle.cr_base.specs.declared.standing.Standing.{Standing}
use Rattle.cr_base.specs.Lists.{given, is_nothing, is_number, listed}
use Rattle.cr_base.specs.Drawn.{stamped}
use Rattle.cr_base.specs.History.{History, declared_told}
use Rattle.cr_base.specs.HistoryFacts.{phase_of, role_of, is_author, is_conflict_on, declared_by_authors}
use Rattle.cr_base.proofs.Small.{implies_from}
use Rattle.cr_history.specs.Invariants.{IsRegistered, IsSubmitted}
use Rattle.cr_policy.specs.Legal.{Legal}
use Rattle.cr_policy.specs.Part as part
use Rattle.cr_policy.specs.Part.{Part}
use Rattle.cr_policy.specs.Sighting.{Sighting}
use Rattle.cr_policy.specs.View.{View, view}
use Rattle.cr_policy.specs.ViewFacts.{only, is_user, accounts_in_view, papers_in_view}
use Rattle.cr_policy.proofs.StandingLaws.{papers-seen, standing_from_view}
use Rattle.cr_bounds.specs.ShownTo.{is_told, is_on_committee, chairs_committee, is_past_submission, oversees}
use Rattle.cr_bounds.specs.ShownTo.{where_known}
use Rattle.cr_bounds.proofs.BoundsWalk.{shown_to}
use Rattle.cr_told.specs.ToldPages.{page_told, is_shown_in_conflict, writers_shown, names_shown, users_shown}
use Rattle.cr_told.specs.ToldParts.{has, lists, conflicts_given, is_name_of, is_told as is_part_told, is_left_untold}
use Rattle.cr_told.proofs.ToldEach.{last-here, listed-here}
use Rattle.cr_told.proofs.ToldKnown.{AllOf, Each, all-of, known-own}
use Rattle.cr_told.proofs.ToldLists.{me_told}
use Rattle.cr_told.proofs.ToldNames.{named, account-listed, swap}
use Rattle.cr_told.proofs.ToldPages.{pages_told}
use Rattle.cr_told.proofs.ToldPartsSeats.{any-filtered}
use Rattle.cr_told.proofs.ToldPlaces.{number-is}
use Rattle.cr_told.proofs.ToldShown as reads

any-made-of : {A : Type 0} (f : A → ℕ) (test : ℕ → Bool) (xs : List A)
    → list_any test (map f xs) ≡ list_any (λ x. test (f x)) xs
any-made-of f test [] = refl
any-made-of f test (x ∷ xs) = ap (λ b. test (f x) || b) (any-made-of f test xs)

-- with which papers a user is told that she is in conflict
conflicts-is : (H : History) (v : ℕ) (u : Option ℕ) → u ≡ Some v
    → conflicts_given u H
    ≡ Some
    (filter (λ (p : ℕ). is_shown_in_conflict u p (view u H)
    && not (list_any (is_number u) (writers_shown p (view u H)))) (papers_in_view (view u H)))
conflicts-is H v u e =
    subst (λ (w : Option ℕ). conflicts_given w H
    ≡ Some
    (filter (λ (p : ℕ). is_shown_in_conflict w p (view w H)
    && not (list_any (is_number w) (writers_shown p (view w H)))) (papers_in_view (view w H)))) (sym e)
    (ap (option_map (λ (me : Me). me.conflicts)) (me_told v H))

module _ (u : Option ℕ) (H : History) (legal : Legal H) (before after : View) where
  abbrev V : View
  V = view u H

  -- of the users who pass, this one is one
  user-listed : (v : ℕ) → IsRegistered H v → (test : ℕ → Bool) → test v ≡ true
      → list_any (eqb v) (users_shown test V) ≡ true
  user-listed v registered test passes =
      any-filtered v test passes (map (λ (a : AccountLine). a.user) (accounts_in_view V))
      (any-made-of (λ (a : AccountLine). a.user) (λ q. q == v) (accounts_in_view V)
      ∙ account-listed u H v registered (λ a. eqb a.user v) true (λ r same. same) refl)

  module _ (earlier later : History) (stamp : Stamp) (more : Bool) (paper user : ℕ) (on : Bool)
      (there : IsSubmitted H paper) (registered : IsRegistered H user)
      (whole : earlier ++ stamped stamp more (Conflict paper user on) ∷ later ≡ H)
      (told : is_told u H earlier later stamp.maker (Conflict paper user on) ≡ true)
      (is : view u H ≡ before ++ shown_to u H earlier later stamp (Conflict paper user on) ∷ after)
    where
      abbrev s : Sighting
      s = shown_to u H earlier later stamp (Conflict paper user on)

      abbrev turns : Sighting → List Bool
      turns t = only (is_number t.paper paper && is_user (Some user) t.user) (listed t.on)

      -- she is shown in conflict, where it is turned on and not turned later
      in-conflict : on ≡ true → is_nothing (flat_map turns after) ≡ true
          → is_shown_in_conflict (Some user) paper V ≡ true
      in-conflict turned none =
          ap (λ (W : View). is_shown_in_conflict (Some user) paper W) is
          ∙ ap (λ o. unwrap_or o false)
          (last-here turns before after s on (λ i. only (eq-eqb paper paper refl i && eq-eqb user user refl i)
          (on ∷ [])) none)
          ∙ turned

      overseen : oversees u paper H ≡ true → is_shown_in_conflict (Some user) paper V ≡ true
          → lists (page_told (λ page. page.conflicts) u paper H) (is_name_of (Some user) u H) ≡ true
      overseen over conflicted =
          ap (λ names. lists names (is_name_of (Some user) u H))
          ((pages_told u paper H legal there).conflicts
          ∙ ap (λ b. where_known b (names_shown (users_shown (λ v. is_shown_in_conflict (Some v) paper V) V) V)) over)
          ∙ named u H user registered (users_shown (λ v. is_shown_in_conflict (Some v) paper V) V)
          (user-listed user registered (λ v. is_shown_in_conflict (Some v) paper V) conflicted)

      -- an author's page has whoever an author declared, and this one, where its maker is an author
      abbrev named-by-one : Bool
      named-by-one = list_any (λ w. w == user) (declared_by_authors paper H)

      listed-there : is_author (Some stamp.maker) paper H ≡ true → named-by-one ≡ true
      listed-there wrote =
          ap (λ (G : History). list_any (λ w. w == user) (flat_map declares G)) (sym whole)
          ∙ listed-here (λ w. w == user) declares earlier later (stamped stamp more (Conflict paper user on))
          ((λ i. list_any (λ w. w == user) (given (eq-eqb paper paper refl i && wrote i) user))
          ∙ ap (λ b. b || false) (eq-eqb user user refl))
        where
          declares : Stamped → List ℕ
          declares e = declared_told (is_author (Some e.stamp.maker) paper H) paper e.entry

      declared : is_author u paper H ≡ true → named-by-one ≡ true
          → lists (page_told (λ page. page.declared) u paper H) (is_name_of (Some user) u H) ≡ true
      declared author named-there =
          ap (λ names. lists names (is_name_of (Some user) u H))
          ((pages_told u paper H legal there).declared
          ∙ ap
          (λ b. where_known b (names_shown (users_shown (λ v. list_any (λ w. w == v) (declared_by_authors paper H)) V)
          V)) author)
          ∙ named u H user registered (users_shown (λ v. list_any (λ w. w == v) (declared_by_authors paper H)) V)
          (user-listed user registered (λ v. list_any (λ w. w == v) (declared_by_authors paper H)) named-there)

      hers : is_number u user ≡ true → is_author u paper H ≡ false → is_shown_in_conflict (Some user) paper V ≡ true
          → lists (conflicts_given u H) (eqb paper) ≡ true
      hers mine stranger conflicted =
          ap (λ papers. lists papers (eqb paper)) (conflicts-is H user u (number-is u user mine))
          ∙ any-filtered paper (λ (p : ℕ). is_shown_in_conflict u p V
          && not (list_any (is_number u) (writers_shown p V)))
          ((λ i. is_shown_in_conflict (number-is u user mine i) paper V
          && not
          ((sym (ap (list_any (is_number u)) (reads.writers u paper H)) ∙ ap (λ (by : Standing). by.author)
          (standing_from_view u (Some paper) H) ∙ stranger) i))
          ∙ ap (λ b. b && true) conflicted)
          (papers_in_view V) (ap (λ papers. list_any (λ q. q == paper) papers) (papers-seen u H) ∙ there)

      abbrev n : Bool
      n = is_number u user

      abbrev m : Bool
      m = is_number u stamp.maker

      abbrev a : Bool
      a = is_author u paper H

      abbrev w : Bool
      w = is_author (Some stamp.maker) paper H

      abbrev none : Bool
      none = is_nothing (flat_map turns after)

      -- what an answer tells
      abbrev shown-in : Bool
      shown-in =
          on
          &&
          (((n && lists (conflicts_given u H) (eqb paper)) || lists (page_told (λ page. page.conflicts) u paper H)
          (is_name_of (Some user) u H))
          || lists (page_told (λ page. page.declared) u paper H) (is_name_of (Some user) u H))

      conflict : IsTrue (is_part_told u H s kinds.Conflict part.user || is_left_untold u H s after kinds.Conflict
          part.user)
      conflict =
          (λ i. shown-in
          ||
          (not on || (if a then n && not (list_any (λ v. swap v user i) (declared_by_authors paper H)) else not none
          || ((m && not n) && not (oversees u paper H)))))
          ∙ final a n m w (oversees u paper H) (lists (conflicts_given u H) (eqb paper))
          (lists (page_told (λ page. page.conflicts) u paper H) (is_name_of (Some user) u H))
          (lists (page_told (λ page. page.declared) u paper H) (is_name_of (Some user) u H)) on none named-by-one told
          (implies_from (on && none && n && not a) (lists (conflicts_given u H) (eqb paper))
          (λ h. let first = and_parts (on && none && n) (not a) h in
          let second = and_parts (on && none) n first.0 in
          let third = and_parts on none second.0 in
          hers second.1 (not-true a first.1) (in-conflict third.0 third.1)))
          (implies_from (on && none && oversees u paper H)
          (lists (page_told (λ page. page.conflicts) u paper H) (is_name_of (Some user) u H))
          (λ h. let first = and_parts (on && none) (oversees u paper H) h in
          let second = and_parts on none first.0 in
          overseen first.1 (in-conflict second.0 second.1)))
          (implies_from (a && named-by-one) (lists (page_told (λ page. page.declared) u paper H)
          (is_name_of (Some user) u H))
          (λ h. declared (and_parts a named-by-one h).0 (and_parts a named-by-one h).1))
          (implies_from w named-by-one listed-there)
          (implies_from (m && a) w
          (λ h. ap (λ v. is_author v paper H) (sym (number-is u stamp.maker (and_parts m a h).0))
          ∙ (and_parts m a h).1))
          (apart (is_on_committee (role_of u H) && is_past_submission (phase_of H)) a (is_conflict_on u paper H)
          (chairs_committee (role_of u H)))
        where
          -- no author oversees her paper
          apart : (s a c l : Bool) → not (a && ((s && not (a || c)) && l)) ≡ true
          apart s true c l = by s l
            where
              by : (s l : Bool) → not ((s && false) && l) ≡ true
              by s l = grind (arith)
          apart s false c l = refl

          final : (a n m w o me page said on none by-one : Bool) → (((n || m) || (a && w)) || o) ≡ true
              → (not (((on && none) && n) && not a) || me) ≡ true → (not ((on && none) && o) || page) ≡ true
              → (not (a && by-one) || said) ≡ true
              → (not w || by-one) ≡ true → (not (m && a) || w) ≡ true → not (a && o) ≡ true
              → ((on && (((n && me) || page) || said))
              || (not on || (if a then n && not by-one else not none || ((m && not n) && not o)))) ≡ true
          final true n m w o me page said on none by-one told hm hp hs hw hmine ho =
              grind (arith, told, hm, hp, hs, hw, hmine, ho)
          final false n m w o me page said on none by-one told hm hp hs hw hmine ho =
              grind (arith, told, hm, hp, hs, hw, hmine, ho)

      conflict-all' : (what : Part) → IsTrue (has what s)
          → IsTrue (is_part_told u H s kinds.Conflict what || is_left_untold u H s after kinds.Conflict what)
      conflict-all' part.user shown = conflict
      conflict-all' part.on shown = conflict
      conflict-all' part.at shown = known-own (is_number u stamp.maker) stamp.at shown
      conflict-all' part.key shown = known-own (is_number u stamp.maker) stamp.key shown
      conflict-all' _ shown = absurd (true≢false (sym shown))

pub conflict-all : AllOf kinds.Conflict
conflict-all = all-of kinds.Conflict each
  where
    each : Each kinds.Conflict
    each u H legal before after what earlier later stamp more (Conflict paper user on) whole known told is kind shown =
        conflict-all' u H legal before after earlier later stamp more paper user on known.there.0 known.there.1 whole
        told is what shown
    each u H legal before after what earlier later stamp more e whole known told is kind shown =
        absurd (true≢false (sym kind))
