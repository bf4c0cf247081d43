-- SPDX-License-Identifier: Apache-2.0 OR MIT
-- Of bids each part that is shown is told or left out.
use Rattle.std.proofs.Common.{◌≡◌, ℕ, Bool, true, false, List, [], ◌∷◌, ◌++◌, refl, sym, ap, ◌∙◌, ◌||◌, ◌&&◌, Option}
use Rattle.std.proofs.Common.{Some, None, eqb, arith, append-nil}
use Rattle.std.specs.Prelude.{not, map, IsTrue, is_some, nat_eq, unwrap_or}
use Rattle.std.specs.List.{flat_map, list_any}
use Rattle.std.proofs.lemmas.Bool.{true≢false, eq-eqb, eqb-true, or_left, or_right}
use Rattle.std.proofs.lemmas.List.Folds.{list_any-append}
use Rattle.cr_base.specs.declared.entry.Entry.TheVariants.{Bid}
use Rattle.cr_base.specs.declared.entry.EntryKind.TheVariants as kinds
use Rattle.cr_base.specs.declared.entry.Stamp.{Stamp}
use Rattle.cr_base.specs.declared.page.Bidder.{Bidder}
use Rattle.cr_base.specs.declared.reply.AccountLine.{AccountLine}
use Rattle.cr_base.specs.Lists.{is_nothing, is_number, last, listed}
use Rattle.cr_base.specs.History.{History}
use Rattle.cr_history.specs.Invariants.{IsRegistered, IsSubmitted}
use Rattle.cr_policy.specs.Legal.{Legal}
use Rattle.cr_policy.specs.Part as part
use Rattle.cr_policy.specs.Part.{Part}
use Rattle.cr_policy.specs.Sighting.{Sighting}
use Rattle.cr_policy.specs.View.{View, view}
use Rattle.cr_policy.specs.ViewFacts.{only, is_user, accounts_in_view}
use Rattle.cr_bounds.specs.ShownTo.{is_told, is_eligible, oversees, where_known}
use Rattle.cr_bounds.proofs.BoundsWalk.{shown_to}
use Rattle.cr_told.specs.ToldPages.{page_told, bids_shown_of, own_bids_shown, names_shown}
use Rattle.cr_told.specs.ToldLists.{bids_listed}
use Rattle.cr_told.specs.ToldParts.{has, agree, lists, is_name_of, is_told as is_part_told, is_left_untold}
use Rattle.cr_told.proofs.ToldEach.{last-here, last-there, last-or-told, known}
use Rattle.cr_told.proofs.ToldKnown.{AllOf, Each, all-of, known-own}
use Rattle.cr_told.proofs.ToldLists.{page_lists_told}
use Rattle.cr_told.proofs.ToldNames.{swap, account-listed, named}
use Rattle.cr_told.proofs.ToldPages.{pages_told}
use Rattle.cr_told.proofs.ToldPlaces.{known-some}

-- what is made of one that is picked passes
any-of : {A B : Type 0} (pick : A → Bool) (f : A → List B) (test : B → Bool)
    → ((x : A) → pick x ≡ true → list_any test (f x) ≡ true) → (xs : List A)
    → list_any pick xs ≡ true → list_any test (flat_map f xs) ≡ true
any-of pick f test passes [] h = absurd (true≢false (sym h))
any-of pick f test passes (x ∷ xs) h =
    list_any-append test (f x) (flat_map f xs) ∙ by (pick x) refl h (any-of pick f test passes xs)
  where
    by : (b : Bool) → pick x ≡ b → (b || list_any pick xs) ≡ true
        → (list_any pick xs ≡ true → list_any test (flat_map f xs) ≡ true)
        → (list_any test (f x) || list_any test (flat_map f xs)) ≡ true
    by true e h rest = or_left _ _ (passes x e)
    by false e h rest = or_right (list_any test (f x)) _ (rest h)

any-mapped : {A B : Type 0} (pick : A → Bool) (made : A → B) (test : B → Bool)
    → ((x : A) → pick x ≡ true → test (made x) ≡ true) → (xs : List A)
    → list_any pick xs ≡ true → list_any test (map made xs) ≡ true
any-mapped pick made test passes [] h = absurd (true≢false (sym h))
any-mapped pick made test passes (x ∷ xs) h = by (pick x) refl h (any-mapped pick made test passes xs)
  where
    by : (b : Bool) → pick x ≡ b → (b || list_any pick xs) ≡ true
        → (list_any pick xs ≡ true → list_any test (map made xs) ≡ true)
        → (test (made x) || list_any test (map made xs)) ≡ true
    by true e h rest = or_left _ _ (passes x e)
    by false e h rest = or_right (test (made x)) _ (rest h)

module _ (u : Option ℕ) (H : History) (legal : Legal H) (before after : View) where
  abbrev V : View
  V = view u H

  module _ (earlier later : History) (stamp : Stamp) (more : Bool) where
    module _ (paper value : ℕ) (there : IsSubmitted H paper) (registered : IsRegistered H stamp.maker)
        (told : is_told u H earlier later stamp.maker (Bid paper value) ≡ true)
        (is : view u H ≡ before ++ shown_to u H earlier later stamp (Bid paper value) ∷ after)
      where
        abbrev b : Sighting
        b = shown_to u H earlier later stamp (Bid paper value)

        -- an overseer's list has whose bid it is, and its last value
        bid-line : (o : ℕ) → last (bids_shown_of stamp.maker paper V) ≡ Some o → (test : Bidder → Bool)
            → ((name : List ℕ) → is_name_of (Some stamp.maker) u H name ≡ true → test (record { bid = o; user = name })
            ≡ true)
            → oversees u paper H ≡ true → lists (page_told (λ page. page.bids) u paper H) test ≡ true
        bid-line o last-is test passes over =
            ap (λ bids. lists bids test) ((page_lists_told u paper H legal there).bids
            ∙ ap (λ b. where_known b (bids_listed paper V)) over)
            ∙ any-of (λ (a : AccountLine). eqb stamp.maker a.user)
            (λ (a : AccountLine). flat_map (λ (value : ℕ). map (λ (name : List ℕ). record { bid = value; user = name })
            (names_shown (a.user ∷ []) V))
            (listed (last (bids_shown_of a.user paper V)))) test
            (λ a same. by a (eqb-true stamp.maker a.user same))
            (accounts_in_view V) (account-listed u H stamp.maker registered (λ a. eqb stamp.maker a.user) true
            (λ r same. swap r.user stamp.maker ∙ same) refl)
          where
            line : ℕ → List ℕ → Bidder
            line value name = record { bid = value; user = name }

            by : (a : AccountLine) → stamp.maker ≡ a.user
                → list_any test
                (flat_map (λ (value : ℕ). map (λ (name : List ℕ). record { bid = value; user = name })
                (names_shown (a.user ∷ []) V))
                (listed (last (bids_shown_of a.user paper V)))) ≡ true
            by a e =
                ap
                (λ (v : ℕ). list_any test
                (flat_map (λ (value : ℕ). map (λ (name : List ℕ). record { bid = value; user = name })
                (names_shown (v ∷ []) V))
                (listed (last (bids_shown_of v paper V))))) (sym e)
                ∙ ap
                (λ (o : Option ℕ). list_any test
                (flat_map (λ (value : ℕ). map (λ (name : List ℕ). record { bid = value; user = name })
                (names_shown (stamp.maker ∷ []) V)) (listed o)))
                last-is
                ∙ ap (list_any test)
                (append-nil (map (λ (name : List ℕ). record { bid = o; user = name })
                (names_shown (stamp.maker ∷ []) V)))
                ∙ any-mapped (is_name_of (Some stamp.maker) u H) (λ (name : List ℕ). record { bid = o; user = name })
                test passes (names_shown (stamp.maker ∷ []) V)
                (named u H stamp.maker registered (stamp.maker ∷ [])
                (ap (λ b. b || false) (eq-eqb stamp.maker stamp.maker refl)))

        abbrev shown-bid : Sighting → List ℕ
        shown-bid s = only (is_number s.paper paper && is_user (Some stamp.maker) s.by) (listed s.value)

        bid-shown : oversees u paper H ≡ true → shown-bid b ≡ value ∷ []
        bid-shown over =
            (λ i. only (eq-eqb paper paper refl i && is_user (Some stamp.maker) (where_known (over i) stamp.maker))
            (value ∷ []))
            ∙ ap (λ b. only b (value ∷ [])) (eq-eqb stamp.maker stamp.maker refl)

        some-last : oversees u paper H ≡ true → is_some (last (bids_shown_of stamp.maker paper V)) ≡ true
        some-last over = ap (λ (W : View). is_some (last (bids_shown_of stamp.maker paper W))) is
            ∙ last-there shown-bid before after b value (bid-shown over)

        bid : (what : Part) → IsTrue (has what b)
            → IsTrue (is_part_told u H b kinds.Bid what || is_left_untold u H b after kinds.Bid what)
        bid part.by shown =
            or_left _ false
            (ap (λ by. lists (page_told (λ page. page.bids) u paper H) (λ bid. is_name_of by u H bid.user))
            (known _ stamp.maker shown)
            ∙ any-last (last (bids_shown_of stamp.maker paper V)) refl (some-last over))
          where
            over : oversees u paper H ≡ true
            over = sym (known-some (oversees u paper H) stamp.maker) ∙ shown

            any-last : (o : Option ℕ) → last (bids_shown_of stamp.maker paper V) ≡ o → is_some o ≡ true
                → lists (page_told (λ page. page.bids) u paper H) (λ bid. is_name_of (Some stamp.maker) u H bid.user)
                ≡ true
            any-last None e some = absurd (true≢false (sym some))
            any-last (Some o) e some =
                bid-line o e (λ bid. is_name_of (Some stamp.maker) u H bid.user) (λ name is-name. is-name) over
        bid part.value shown = by (oversees u paper H) refl
          where
            listed-bid : Bool
            listed-bid =
                lists (page_told (λ page. page.bids) u paper H)
                (λ bid. is_name_of b.by u H bid.user && eqb value bid.bid)

            key-same : Bool
            key-same = agree nat_eq (Some value) (page_told (λ page. page.bid) u paper H)

            later-bid : Bool
            later-bid = not (is_nothing (bids_shown_of (unwrap_or b.by 0) paper after))

            later-own : Bool
            later-own = not (is_nothing (own_bids_shown paper after))

            first : (a m k x y h : Bool) → (a || x) ≡ true → ((a || (m && k)) || (x || (m && y) || h)) ≡ true
            first a m k x y h is = grind (arith, is)

            second : (a m k x y h : Bool) → m ≡ true → (k || y) ≡ true
                → ((a || (m && k)) || (x || (m && y) || h)) ≡ true
            second a m k x y h own is = grind (arith, own, is)

            third : (a m k x y h : Bool) → h ≡ true → ((a || (m && k)) || (x || (m && y) || h)) ≡ true
            third a m k x y h is = grind (arith, is)

            mine : oversees u paper H ≡ false → is_number u stamp.maker ≡ true
            mine none = own (is_number u stamp.maker) (oversees u paper H) told none
              where
                own : (m o : Bool) → (m || o) ≡ true → o ≡ false → m ≡ true
                own m o h none = grind (arith, h, none)

            overseen-bid : oversees u paper H ≡ true → (n : Bool)
                → is_nothing (bids_shown_of stamp.maker paper after) ≡ n → (listed-bid || later-bid) ≡ true
            overseen-bid over true none =
                or_left listed-bid later-bid
                (ap (λ by. lists (page_told (λ page. page.bids) u paper H)
                (λ bid. is_name_of by u H bid.user && eqb value bid.bid)) (ap (λ b. where_known b stamp.maker) over)
                ∙ bid-line value
                (ap (λ (W : View). last (bids_shown_of stamp.maker paper W)) is
                ∙ last-here shown-bid before after b value (bid-shown over) none)
                (λ bid. is_name_of (Some stamp.maker) u H bid.user && eqb value bid.bid)
                (λ name is-name i. is-name i && eq-eqb value value refl i) over)
            overseen-bid over false some =
                or_right listed-bid later-bid
                (ap (λ by. not (is_nothing (bids_shown_of (unwrap_or by 0) paper after)))
                (ap (λ b. where_known b stamp.maker) over) ∙ ap not some)

            own-bid : is_number u stamp.maker ≡ true → is_eligible u paper H ≡ true → (key-same || later-own) ≡ true
            own-bid own handling =
                ap (λ key. agree nat_eq (Some value) key || later-own)
                ((pages_told u paper H legal there).bid ∙ ap
                (λ b. where_known b (unwrap_or (last (own_bids_shown paper V)) 20)) handling)
                ∙ last-or-told nat_eq (λ (s : Sighting). only (is_number s.paper paper && s.mine) (listed s.value))
                before after b value 20 (eq-eqb value value refl)
                (λ i. only (eq-eqb paper paper refl i && own i) (value ∷ []))
                (unwrap_or (last (own_bids_shown paper V)) 20)
                (ap (λ (W : View). unwrap_or (last (own_bids_shown paper W)) 20) is)

            by : (o : Bool) → oversees u paper H ≡ o
                → ((listed-bid || (is_number u stamp.maker && key-same))
                || (later-bid || (is_number u stamp.maker && later-own)
                || (is_number u stamp.maker && not (is_eligible u paper H)))) ≡ true
            by true over =
                first listed-bid (is_number u stamp.maker) key-same later-bid later-own
                (is_number u stamp.maker && not (is_eligible u paper H))
                (overseen-bid over (is_nothing (bids_shown_of stamp.maker paper after)) refl)
            by false none = hers (is_eligible u paper H) refl
              where
                hers : (h : Bool) → is_eligible u paper H ≡ h
                    → ((listed-bid || (is_number u stamp.maker && key-same))
                    || (later-bid || (is_number u stamp.maker && later-own)
                    || (is_number u stamp.maker && not (is_eligible u paper H)))) ≡ true
                hers true handling =
                    second listed-bid (is_number u stamp.maker) key-same later-bid later-own
                    (is_number u stamp.maker && not (is_eligible u paper H)) (mine none)
                    (own-bid (mine none) handling)
                hers false not-hers =
                    third listed-bid (is_number u stamp.maker) key-same later-bid later-own
                    (is_number u stamp.maker && not (is_eligible u paper H))
                    (λ i. mine none i && not (not-hers i))
        bid part.at shown = known-own (is_number u stamp.maker) stamp.at shown
        bid part.key shown = known-own (is_number u stamp.maker) stamp.key shown
        bid _ shown = absurd (true≢false (sym shown))

pub bid-all : AllOf kinds.Bid
bid-all = all-of kinds.Bid each
  where
    each : Each kinds.Bid
    each u H legal before after what earlier later stamp more (Bid paper value) whole known told is kind shown =
        bid u H legal before after earlier later stamp more paper value known.there.0 known.there.1 told is what shown
    each u H legal before after what earlier later stamp more e whole known told is kind shown =
        absurd (true≢false (sym kind))
