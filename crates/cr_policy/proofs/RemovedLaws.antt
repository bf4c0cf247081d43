-- SPDX-License-Identifier: Apache-2.0 OR MIT
-- Without an entry that shows a user nothing she sees the same.
use Rattle.std.proofs.Common.{◌≡◌, ℕ, Bool, true, false, List, [], ◌∷◌, ◌++◌, refl, sym, ap, subst, ◌∙◌, ◌||◌, ◌&&◌}
use Rattle.std.proofs.Common.{Option, Some, append_assoc, append-nil}
use Rattle.std.specs.Prelude.{not}
use Rattle.std.specs.List.{flat_map, list_any}
use Rattle.std.proofs.lemmas.Bool.{or_parts, true≢false, or_left}
use Rattle.std.proofs.lemmas.List.Concat.{flat_map-append}
use Rattle.std.proofs.lemmas.List.Folds.{list_any-append}
use Rattle.cr_base.specs.declared.entry.Entry.{Entry}
use Rattle.cr_base.specs.declared.entry.Entry.TheVariants.{Conflict}
use Rattle.cr_base.specs.declared.entry.Stamped.{Stamped}
use Rattle.cr_base.specs.declared.words.Phase.TheVariants.{Setup, Response}
use Rattle.cr_base.specs.declared.words.Mode.TheVariants.{Blind}
use Rattle.cr_base.specs.declared.words.Role.TheVariants.{Account}
use Rattle.cr_base.specs.Lists.{given, is_number, last_or}
use Rattle.cr_base.specs.History.{History, phase_told, mode_told, role_told, author_told, conflict_told, invite_told}
use Rattle.cr_base.specs.History.{opens_response}
use Rattle.cr_base.specs.HistoryFacts.{phase_of, mode_of, role_of, authors_of, is_author, is_conflict_on, is_invited}
use Rattle.cr_base.specs.HistoryFacts.{had_response_of}
use Rattle.cr_base.specs.Words.{is_member}
use Rattle.cr_policy.specs.Part.{own_parts}
use Rattle.cr_policy.specs.Sighting.{Sighting}
use Rattle.cr_policy.specs.Triggers.{Reader, reader, Around, position_of, rows, ◌see◌, user_named}
use Rattle.cr_policy.specs.View.{rows_at, is_seen, joined, sight, sights, view}
use Rattle.cr_policy.specs.ViewFacts.{phase_seen, mode_seen, role_seen, author_seen, conflict_seen, invite_seen}
use Rattle.cr_policy.specs.HiddenPayload.{AcceptedAlike, Removal, LooksSame, unchanged, differing, left_out, reversed}
use Rattle.cr_policy.specs.HiddenPayload.{through}
use Rattle.cr_policy.proofs.HiddenLaws.{hidden_payload, where_wrote, MadeAlike, wrote-rows, seen_by}
use Rattle.cr_policy.proofs.InviteTells.{invite_kept, invite_tells}
use Rattle.cr_policy.proofs.RemovedRows.{moved-rows, moved-ahead, moved-behind, unseen-opens}
use Rattle.cr_policy.proofs.Tells.{phase_tells, mode_tells, role_tells, author_tells, author_value, conflict_tells}
use Rattle.cr_policy.proofs.Tells.{conflict_value}

-- where nothing is shown no row applies
unseen-sight : (r : Reader) (at : Around) (e : Stamped) → sight r at e ≡ [] → is_seen r at e ≡ false
unseen-sight r at e h = by (is_seen r at e) (joined r at e) h
  where
    some : List Sighting → Bool
    some [] = false
    some (s ∷ ss) = true

    by : (b : Bool) (s : Sighting) → given b s ≡ [] → b ≡ false
    by true s h = absurd (true≢false (ap some h))
    by false s h = refl

-- ---- who reads

-- an entry that tells nothing leaves what is told
pub told-without : {A : Type 0} (told : Stamped → List A) (before after : History) (gone : Stamped) → told gone ≡ []
    → flat_map told (before ++ gone ∷ after) ≡ flat_map told (before ++ after)
told-without told before after gone h =
    flat_map-append told before (gone ∷ after)
    ∙ (λ i. flat_map told before ++ (h i ++ flat_map told after))
    ∙ sym (flat_map-append told before after)

-- and who isn't among the told isn't among fewer
any-without : {A : Type 0} (test : A → Bool) (told : Stamped → List A) (before after : History) (gone : Stamped)
    → list_any test (flat_map told (before ++ gone ∷ after)) ≡ false
    → list_any test (flat_map told (before ++ after)) ≡ false
any-without test told before after gone h =
    let parts = or_parts (list_any test (flat_map told before)) (list_any test (told gone ++ flat_map told after))
    (sym (list_any-append test (flat_map told before) (flat_map told (gone ∷ after)))
    ∙ ap (list_any test) (sym (flat_map-append told before (gone ∷ after))) ∙ h) in
    let rest = or_parts (list_any test (told gone)) (list_any test (flat_map told after))
    (sym (list_any-append test (told gone) (flat_map told after)) ∙ parts.1) in
    ap (list_any test) (flat_map-append told before after)
    ∙ list_any-append test (flat_map told before) (flat_map told after)
    ∙ (λ i. parts.0 i || rest.1 i)

module _ (u : Option ℕ) (before after : History) (gone : Stamped) where
  abbrev with_it : History
  with_it = before ++ gone ∷ after

  abbrev without_it : History
  without_it = before ++ after

  abbrev there : Around
  there = record { before = before; after = after }

  module _ (nothing : sight (reader u with_it) there gone ≡ []) where
    phase-without : phase_of with_it ≡ phase_of without_it
    phase-without =
        ap (last_or Setup)
        (told-without (λ (e : Stamped). phase_told e.entry) before after gone
        (sym (phase_tells (reader u with_it) there gone) ∙ ap (flat_map phase_seen) nothing))

    response-without : had_response_of with_it ≡ had_response_of without_it
    response-without =
        list_any-append opens_response before (gone ∷ after)
        ∙ (λ i. list_any opens_response before ||
        (unseen-opens Response (reader u with_it) there gone (unseen-sight (reader u with_it) there gone nothing) i
        || list_any opens_response after))
        ∙ sym (list_any-append opens_response before after)

    mode-without : mode_of with_it ≡ mode_of without_it
    mode-without =
        ap (last_or Blind)
        (told-without (λ (e : Stamped). mode_told e.entry) before after gone
        (sym (mode_tells (reader u with_it) there gone) ∙ ap (flat_map mode_seen) nothing))

    role-without : role_of u with_it ≡ role_of u without_it
    role-without =
        ap (last_or Account)
        (told-without (λ (e : Stamped). role_told u e.entry) before after gone
        (sym (role_tells (reader u with_it) u there gone) ∙ ap (flat_map (role_seen u)) nothing))

    conflict-without : (p : ℕ) → is_conflict_on u p with_it ≡ is_conflict_on u p without_it
    conflict-without p =
        ap (last_or false)
        (told-without (λ (e : Stamped). conflict_told u p e.entry) before after gone
        (sym (conflict_value (reader u with_it) there u p gone
        (λ stamp more user on hers. or_left (is_number u user) _ hers))
        ∙ sym (conflict_tells (reader u with_it) u p there gone)
        ∙ ap (flat_map (conflict_seen u p)) nothing))

    invite-without : (p : ℕ) → is_invited u p with_it ≡ is_invited u p without_it
    invite-without p =
        ap (last_or false)
        (told-without (λ (e : Stamped). invite_told u p e.entry) before after gone
        (sym (invite_kept (reader u with_it) there u p (record {
          invited = λ stamp more user hers. or_left (is_number u user) _ hers;
          uninvited = λ stamp more user hers. or_left (is_number u user) _ hers;
        }) gone)
        ∙ sym (invite_tells (reader u with_it) u p there gone)
        ∙ ap (flat_map (invite_seen u p)) nothing))

    -- of a paper of hers all authors stay
    authors-without : (p : ℕ) → is_author u p with_it ≡ true → authors_of p with_it ≡ authors_of p without_it
    authors-without p h =
        told-without (λ (e : Stamped). author_told p e.stamp.maker e.entry) before after gone
        (sym (author_value (reader u with_it) there p (record {
          submitted = λ stamp more title abstract. or_left (is_author u p with_it) _ h;
          coauthor = λ stamp more user. or_left (is_author u p with_it) _ h;
        }) gone)
        ∙ sym (author_tells (reader u with_it) p there gone)
        ∙ ap (flat_map (author_seen p)) nothing)

    author-without : (p : ℕ) → is_author u p with_it ≡ is_author u p without_it
    author-without p = by (is_author u p with_it) refl
      where
        by : (b : Bool) → is_author u p with_it ≡ b → is_author u p with_it ≡ is_author u p without_it
        by true h = ap (list_any (is_number u)) (authors-without p h)
        by false h =
            h
            ∙ sym (any-without (is_number u) (λ (e : Stamped). author_told p e.stamp.maker e.entry) before after gone
            h)

    reader-without : AcceptedAlike with_it without_it
        → where_wrote (reader u with_it) (reader u without_it).wrote ≡ reader u without_it
    reader-without accepted = λ i. record {
      number = u;
      now = phase-without i;
      had_response = response-without i;
      mode = mode-without i;
      rank = role-without i;
      author = λ p. author-without p i;
      conflicted = λ p. author-without p i || conflict-without p i;
      external = λ p. not (is_member (role-without i)) && invite-without p i;
      wrote = (reader u without_it).wrote;
      accepted = λ p. accepted p i;
    }

    made-without : (e : Entry) (maker : ℕ) → MadeAlike (reader u with_it) (reader u without_it).wrote e maker maker
    made-without (Conflict paper user on) maker =
        λ hers. ap (list_any (is_number (Some maker))) (authors-without paper hers)
    made-without e maker = tt

-- ---- what is shown

module _ (r r' : Reader) (is : where_wrote r r'.wrote ≡ r') (number : r.number ≡ r'.number)
    (made : (e : Entry) (maker : ℕ) → MadeAlike r r'.wrote e maker maker) where
  -- an entry for which the rows are alike by its two places
  sight-moved : (at at' : Around) (e : Stamped)
      → rows r (position_of at e.entry) e.stamp.maker e.entry ≡ rows r (position_of at' e.entry) e.stamp.maker e.entry
      → sight r at e ≡ sight r' at' e
  sight-moved at at' e moved = λ i. seen_by (all_rows i) (is_number (number i) e.stamp.maker) e
    where
      all_rows : rows_at r at e ≡ rows_at r' at' e
      all_rows =
          (λ i. (moved ∙ wrote-rows r r'.wrote (position_of at' e.entry) e.stamp.maker e.stamp.maker e.entry
          (made e.entry e.stamp.maker)) i ++ is_number (number i) e.stamp.maker see own_parts ∷ [])
          ∙ (λ i. rows (is i) (position_of at' e.entry) e.stamp.maker e.entry ++ user_named r' e.stamp.maker see
          own_parts ∷ [])

  -- those behind the entry that is taken out
  sights-behind : (front between post : History) (gone : Stamped)
      → is_seen r (record { before = front; after = between ++ post }) gone ≡ false
      → sights r (front ++ gone ∷ between) post ≡ sights r' (front ++ between) post
  sights-behind front between [] gone unseen = refl
  sights-behind front between (e ∷ post) gone unseen =
      let first = sight-moved (record { before = front ++ gone ∷ between; after = post })
      (record { before = front ++ between; after = post }) e
      (moved-rows r (record { before = front; after = between ++ e ∷ post }) gone unseen _ _ e.stamp.maker e.entry
      (moved-behind r front between post e gone unseen)) in
      let later : is_seen r (record { before = front; after = (between ++ e ∷ []) ++ post }) gone ≡ false =
      subst (λ (rest : History). is_seen r (record { before = front; after = rest }) gone ≡ false)
      (sym (append_assoc between (e ∷ []) post)) unseen in
      let rest = sights-behind front (between ++ e ∷ []) post gone later in
      (λ i. first i ++ sights r (append_assoc front (gone ∷ between) (e ∷ []) i) post)
      ∙ (λ i. sight r' (record { before = front ++ between; after = post }) e ++ rest i)
      ∙ (λ i. sight r' (record { before = front ++ between; after = post }) e
      ++ sights r' (sym (append_assoc front between (e ∷ [])) i) post)

  -- and those ahead of it
  sights-ahead : (front between post : History) (gone : Stamped)
      → is_seen r (record { before = front ++ between; after = post }) gone ≡ false
      → sights r front (between ++ gone ∷ post) ≡ sights r' front (between ++ post)
  sights-ahead front [] post gone unseen =
      let here : is_seen r (record { before = front; after = post }) gone ≡ false =
      subst (λ (b : History). is_seen r (record { before = b; after = post }) gone ≡ false) (append-nil front) unseen in
      (λ i. given (here i) (joined r (record { before = front; after = post }) gone) ++ sights r (front ++ gone ∷ [])
      post)
      ∙ sights-behind front [] post gone here
      ∙ (λ i. sights r' (append-nil front i) post)
  sights-ahead front (e ∷ between) post gone unseen =
      let first = sight-moved (record { before = front; after = between ++ gone ∷ post })
      (record { before = front; after = between ++ post }) e
      (moved-rows r (record { before = front ++ e ∷ between; after = post }) gone unseen _ _ e.stamp.maker e.entry
      (moved-ahead r front between post e gone unseen)) in
      let later : is_seen r (record { before = (front ++ e ∷ []) ++ between; after = post }) gone ≡ false =
      subst (λ (b : History). is_seen r (record { before = b; after = post }) gone ≡ false)
      (sym (append_assoc front (e ∷ []) between)) unseen in
      let rest = sights-ahead (front ++ e ∷ []) between post gone later in
      λ i. first i ++ rest i

pub removal : Removal
removal u before after gone nothing accepted =
    sym (sights-ahead (reader u (before ++ gone ∷ after)) (reader u (before ++ after))
    (reader-without u before after gone nothing accepted) refl (made-without u before after gone nothing) [] before
    after gone
    (unseen-sight (reader u (before ++ gone ∷ after)) (record { before = before; after = after }) gone nothing))

-- histories that come to be alike in several such steps look the same
pub looks-same : (u : Option ℕ) (H H' : History) → LooksSame u H H' → view u H ≡ view u H'
looks-same u _ _ (unchanged H) = refl
looks-same u _ _ (differing H H' differs) = hidden_payload u H H' differs
looks-same u _ _ (left_out before after e unseen accepted) = sym (removal u before after e unseen accepted)
looks-same u _ _ (reversed H H' same) = sym (looks-same u H H' same)
looks-same u _ _ (through H between H' one other) = looks-same u H between one ∙ looks-same u between H' other
