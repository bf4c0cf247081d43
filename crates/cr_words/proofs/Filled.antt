-- SPDX-License-Identifier: Apache-2.0 OR MIT
-- Each row that a walk over the words leaves has a value with which clap finds no fault, where each argument takes
-- one value or is the call for help.
use Rattle.std.proofs.Common.{◌≡◌, ◌⊎◌, subst, ℕ, zero, suc, ◌&&◌, ◌++◌, List, [], ◌∷◌, Bool, true, false, cond, Option}
use Rattle.std.proofs.Common.{Some, None, is_some, refl, inl, inr}
use Rattle.std.specs.Prelude.{⊤, find, fold, slice_get, drop, length, encode_utf8}
use Rattle.std.specs.Str.{bytes_eq, chars}
use Rattle.std.specs.Option.{option_map_or}
use Rattle.clap.specs.Facts.{parser_of_value, unwrap_or_range}
use Rattle.clap.specs.Kinds.{Kinds, or_else, range_kinds, value_kinds}
use Rattle.clap.specs.Walk.{Held, Names, Outcome, done, waits, plain, refused, Row, Rule, Step, next, trailing}
use Rattle.clap.specs.Walk.{subcommand, value, Text, Waiting, idle, option, positional, Walk, action_of, after_flag}
use Rattle.clap.specs.Walk.{after_step, arg_by_id, arg_by_index, arg_by_long, arg_by_short, attached_value, bundle}
use Rattle.clap.specs.Walk.{bundle_met, bundle_step, first_of, has_row, is_pending, flag_met, long_met, long_or_other}
use Rattle.clap.specs.Walk.{option_met, option_word, plain_word, reacted, settled, settled_rows, short_met}
use Rattle.clap.specs.Walk.{short_or_plain, subcommand_met, subcommand_or_other, takes_several, takes_values}
use Rattle.clap.specs.Walk.{to_positional, used, used_by_id, walk, rows_after, walk_from, walked, walked_from}
use Rattle.clap.specs.Walk.{with_default, with_values, without, word_met, more_values, default_rows, reading_by}
use Rattle.clap.specs.Walk.{nothing_held}
use Rattle.clap.specs.Lexer.{long_of, short_of}
use Rattle.clap.specs.Simple.{Shape}
use Rattle.clap.specs.Takes.{is_given}
use Rattle.clap.specs.Faults.{action_fault, bundle_fault, bundle_step_fault, check_fault, defaults_fault, stray_fault}
use Rattle.clap.specs.Faults.{flags_fault, flag_word_fault, level_fault, long_fault, option_fault, other_fault}
use Rattle.clap.specs.Faults.{positional_fault, react_fault, settle_fault, short_fault, step_fault, turn_fault}
use Rattle.clap.specs.Faults.{use_fault, walk_fault, word_fault}
use Rattle.clap.specs.declared.builder.value_parser.Reading.{Reading}
use Rattle.clap.specs.declared.parser.matches.ValueSource.{ValueSource}
use Rattle.clap.specs.declared.builder.action.ArgAction.TheVariants.{Set, Help}
use Rattle.clap.specs.declared.error.kind.ErrorKind.TheVariants.{TooManyValues}

-- ---- kinds in turn

pub first_none : (a b : Kinds) → or_else a b ≡ [] → a ≡ []
first_none [] b e = refl
first_none (k ∷ ks) b e = cc

pub last_none : (a b : Kinds) → or_else a b ≡ [] → b ≡ []
last_none [] b e = e
last_none (k ∷ ks) b e = cc

-- P is what is known of the values of an id with which clap finds no fault
module _ (P : Text → Text → Type 0) where
  -- ---- rows with a value each

  -- the row has a first value, of which P holds
  abbrev pub IsFilled : Row → Type 0
  IsFilled r = (v : Text) × (slice_get r.values 0 ≡ Some v) × P r.id v

  abbrev pub AreFilled : List Row → Type 0
  AreFilled [] = ⊤
  AreFilled (r ∷ rs) = IsFilled r × AreFilled rs

  without_filled : (id : Text) (rows : List Row) → AreFilled rows → AreFilled (without id rows)
  without_filled id [] h = tt
  without_filled id (r ∷ rs) h = by_test (bytes_eq r.id id) (without_filled id rs h.1)
    where
      by_test : (b : Bool) → AreFilled (without id rs) → AreFilled (cond b rs (r ∷ without id rs))
      by_test true rest = h.1
      by_test false rest = (h.0, rest)

  longer : (vs rest : List Text) (v : Text) → slice_get vs 0 ≡ Some v → slice_get (vs ++ rest) 0 ≡ Some v
  longer [] rest v e = cc
  longer (x ∷ xs) rest v e = e

  with_values_filled : (id : Text) (how : Reading) (s : ValueSource) (v : Text) (vs : List Text) (rows : List Row)
      → P id v → AreFilled rows
      → AreFilled (with_values id how s (v ∷ vs) rows)
  with_values_filled id how s v vs [] p h = ((v, refl, p), tt)
  with_values_filled id how s v vs (r ∷ rs) p h = by_test (bytes_eq r.id id) (with_values_filled id how s v vs rs p h.1)
    where
      by_test : (b : Bool) → AreFilled (with_values id how s (v ∷ vs) rs)
          → AreFilled (cond b (more_values s (v ∷ vs) r ++ rs) (r ∷ with_values id how s (v ∷ vs) rs))
      by_test true rest = ((h.0.0, longer r.values (v ∷ vs) h.0.0 h.0.1, h.0.2), h.1)
      by_test false rest = (h.0, rest)

  with_default_filled : (rows : List Row) (a : Rule) → a.defaults ≡ [] → AreFilled rows
      → AreFilled (with_default rows a)
  with_default_filled rows a none h = by_test (has_row a.id rows)
    where
      by_test : (b : Bool) → AreFilled (cond b rows (default_rows a.id (reading_by a) a.defaults rows))
      by_test true = h
      by_test false = rw none h

  -- the option has a first value, of which P holds by some writing of its id
  abbrev pub HasFirst : Text → List Row → Type 0
  HasFirst id rows = (v : Text) × (first_of id rows ≡ Some v) × ((key : Text) × (bytes_eq key id ≡ true) × P key v)

  -- an option that was given has one
  pub given_first : (id : Text) (rows : List Row) → AreFilled rows → is_given id rows ≡ true → HasFirst id rows
  given_first id [] h given = cc
  given_first id (r ∷ rs) h given = by_test (bytes_eq r.id id) refl (given_first id rs h.1)
    where
      by_test : (b : Bool) → bytes_eq r.id id ≡ b → (is_given id rs ≡ true → HasFirst id rs) → HasFirst id (r ∷ rs)
      by_test true is rest = (h.0.0, rw is h.0.1, (r.id, is, h.0.2))
      by_test false is rest = let later = rest (rw is at given) in (later.0, rw is later.1, later.2)

  -- ---- one use of an argument

  -- the argument takes one value, of which P holds where clap finds no fault with it
  abbrev pub TakesOne : Rule → Type 0
  TakesOne a = (action_of a ≡ Set) × ((unwrap_or_range a.range).start_inclusive ≡ 1)
      × ((v : Text) → value_kinds a.ignore_case (parser_of_value a.parser) v ≡ [] → P a.id v)

  -- it does, or is the call for help, and has no default
  abbrev pub IsPlainRule : Rule → Type 0
  IsPlainRule a = (TakesOne a ⊎ (action_of a ≡ Help)) × (a.defaults ≡ [])

  abbrev pub ArePlainRules : List Rule → Type 0
  ArePlainRules [] = ⊤
  ArePlainRules (a ∷ rest) = IsPlainRule a × ArePlainRules rest

  defaults_filled : (c : List Rule) (rows : List Row) → ArePlainRules c → AreFilled rows
      → AreFilled (fold with_default rows c)
  defaults_filled [] rows fits h = h
  defaults_filled (a ∷ rest) rows fits h =
      defaults_filled rest (with_default rows a) fits.1 (with_default_filled rows a fits.0.1 h)

  abbrev IsPlainIfSome : Option Rule → Type 0
  IsPlainIfSome None = ⊤
  IsPlainIfSome (Some a) = IsPlainRule a

  found_plain : (p : Rule → Bool) (c : List Rule) → ArePlainRules c → IsPlainIfSome (find p c)
  found_plain p [] h = tt
  found_plain p (a ∷ rest) h = by_test (p a) (found_plain p rest h.1)
    where
      by_test : (b : Bool) → IsPlainIfSome (find p rest) → IsPlainIfSome (cond b (Some a) (find p rest))
      by_test true later = h.0
      by_test false later = later

  no_values : (least most : ℕ) (rest : Kinds) → least ≡ 1 → or_else (range_kinds least most 0) rest ≡ [] → ⊥
  no_values least most rest one e =
      let none : or_else (range_kinds 1 most 0) rest ≡ [] =
      subst (λ l. or_else (range_kinds l most 0) rest ≡ []) one e in
      cc

  used_filled : (again : Bool) (a : Rule) (values : List Text) (rows : List Row) → IsPlainRule a
      → use_fault again a values rows ≡ [] → AreFilled rows
      → AreFilled (used a values rows)
  used_filled again a [] rows (inl set, _) none h = absurd (no_values _ _ _ set.1 none)
  used_filled again a (v ∷ vs) rows (inl set, _) none h =
      let acts : action_fault Set again a (v ∷ vs) rows ≡ [] =
      subst (λ act. action_fault act again a (v ∷ vs) rows ≡ []) set.0 (last_none _ _ none) in
      let passes : P a.id v = set.2 v (first_none _ _ (last_none _ _ acts)) in
      rw set.0 (with_values_filled a.id (reading_by a) _ v vs (without a.id rows) passes (without_filled a.id rows h))
  used_filled again a values rows (inr help, _) none h = rw help h

  by_id_filled : (again : Bool) (o : Option Rule) (values : List Text) (rows : List Row) → IsPlainIfSome o
      → option_map_or (λ a. use_fault again a values rows) o [] ≡ [] → AreFilled rows
      → AreFilled (used_by_id o values rows)
  by_id_filled again None values rows fits none h = h
  by_id_filled again (Some a) values rows fits none h = used_filled again a values rows fits none h

  -- ---- the words, one by one

  option_word_rows : (o : Option Rule) (id word : Text) (h : Held) → (option_word o id word h).0.rows ≡ h.rows
  option_word_rows None id word h = refl
  option_word_rows (Some a) id word h = refl

  plain_rows : (c : List Rule) (waiting : Waiting) (word : Text) (h : Held)
      → (plain_word c waiting word h).0.rows ≡ h.rows
  plain_rows c idle word h = refl
  plain_rows c (option id) word h = option_word_rows (arg_by_id c id) id word h
  plain_rows c positional word h = refl

  after_flag_rows : (c : List Rule) (waiting : Waiting) (word : Text) (h : Held) (o : Outcome)
      → (after_flag c waiting word h o).0.rows ≡ h.rows
  after_flag_rows c waiting word h done = refl
  after_flag_rows c waiting word h (waits id) = refl
  after_flag_rows c waiting word h plain = plain_rows c waiting word h
  after_flag_rows c waiting word h refused = plain_rows c waiting word h

  module _ (c : List Rule) (again : Bool) (fits : ArePlainRules c) where
    settled_filled : (rows : List Row) (pending : Option (Text × List Text))
        → option_map_or (λ p. option_map_or (λ a. use_fault again a p.1 rows) (arg_by_id c p.0) []) pending [] ≡ []
        → AreFilled rows → AreFilled (settled_rows c pending rows)
    settled_filled rows None none h = h
    settled_filled rows (Some p) none h = by_id_filled again (arg_by_id c p.0) p.1 rows (found_plain _ c fits) none h

    settles : (h : Held) → settle_fault c again h ≡ [] → AreFilled h.rows → AreFilled (settled c h).rows
    settles h none filled = settled_filled h.rows h.pending none filled

    reacts : (a : Rule) (values : List Text) (h : Held) → IsPlainRule a → react_fault c again a values h ≡ []
        → AreFilled h.rows
        → AreFilled (reacted c a values h).rows
    reacts a values h plain_rule none filled =
        used_filled again a values (settled c h).rows plain_rule (last_none _ _ none)
        (settles h (first_none _ _ none) filled)

    option_filled : (a : Rule) (o : Option Text) (h : Held) → IsPlainRule a → option_fault c again a o h ≡ []
        → AreFilled h.rows
        → AreFilled (option_met c a o h).0.rows
    option_filled a None h plain_rule none filled = settles h none filled
    option_filled a (Some v) h plain_rule none filled = reacts a (v ∷ []) h plain_rule none filled

    long_filled : (o : Option Rule) (v : Option Text) (h : Held) → IsPlainIfSome o → long_fault c again o v h ≡ []
        → AreFilled h.rows
        → AreFilled (long_met c o v h).0.rows
    long_filled None v h plain_rule none filled = filled
    long_filled (Some a) v h plain_rule none filled = by_test (takes_values a) v none
      where
        by_test : (b : Bool) (o : Option Text) → cond b (option_fault c again a o h)
            (cond (is_some o) (TooManyValues ∷ []) (react_fault c again a [] h)) ≡ []
            → AreFilled (cond b (option_met c a o h) (flag_met c a o h)).0.rows
        by_test true o e = option_filled a o h plain_rule e filled
        by_test false None e = reacts a [] h plain_rule e filled
        by_test false (Some x) e = filled

    short_filled : (o : Option Rule) (rest : Text) (h : Held) (met : Held → Held × Outcome) (fault : Held → Kinds)
        → IsPlainIfSome o
        → ((g : Held) → fault g ≡ [] → AreFilled g.rows → AreFilled (met g).0.rows)
        → short_fault c again o rest h fault ≡ [] → AreFilled h.rows
        → AreFilled (short_met c o rest h met).0.rows
    short_filled None rest h met fault plain_rule later none filled = filled
    short_filled (Some a) rest h met fault plain_rule later none filled = by_test (takes_values a) none
      where
        by_test : (b : Bool) → cond b (option_fault c again a (attached_value rest) h)
            (or_else (react_fault c again a [] h) (fault (reacted c a [] h))) ≡ []
            → AreFilled (cond b (option_met c a (attached_value rest) h) (met (reacted c a [] h))).0.rows
        by_test true e = option_filled a (attached_value rest) h plain_rule e filled
        by_test false e =
            later (reacted c a [] h) (last_none _ _ e) (reacts a [] h plain_rule (first_none _ _ e) filled)

    step_filled : (o : Option ℕ) (flags : Text) (skip : ℕ) (so_far : Outcome) (h : Held)
        (met : Text → ℕ → Outcome → Held → Held × Outcome)
        (fault : Text → ℕ → Held → Kinds)
        → ((rest : Text) (n : ℕ) (out : Outcome) (g : Held) → fault rest n g ≡ [] → AreFilled g.rows
        → AreFilled (met rest n out g).0.rows)
        → bundle_step_fault c again o flags skip h fault ≡ [] → AreFilled h.rows
        → AreFilled (bundle_step c o flags skip so_far h met).0.rows
    step_filled None flags skip so_far h met fault later none filled = filled
    step_filled (Some x) flags zero so_far h met fault later none filled =
        let rest = drop (length (encode_utf8 x)) flags in
        short_filled (arg_by_short c x) rest h (met rest 0 done) (fault rest 0) (found_plain _ c fits)
        (later rest 0 done) none filled
    step_filled (Some x) flags (suc n) so_far h met fault later none filled =
        later (drop (length (encode_utf8 x)) flags) n so_far h none filled

    bundle_filled : (k : ℕ) (flags : Text) (skip : ℕ) (so_far : Outcome) (h : Held)
        → flags_fault c again k flags skip h ≡ [] → AreFilled h.rows
        → AreFilled (bundle_met c k flags skip so_far h).0.rows
    unfolding bundle_met flags_fault
    bundle_filled zero flags skip so_far h none filled = filled
    bundle_filled (suc k) flags skip so_far h none filled =
        step_filled (slice_get (chars flags) 0) flags skip so_far h (bundle_met c k) (flags_fault c again k)
        (bundle_filled k) none filled

    flag_filled : (waiting : Waiting) (word : Text) (o : Option (Text × Option Text)) (h : Held)
        → flag_word_fault c again o word h ≡ []
        → AreFilled h.rows → AreFilled (long_or_other c waiting word o h).0.rows
    flag_filled waiting word (Some p) h none filled =
        let met = long_met c (arg_by_long c p.0) p.1 h in
        rw (after_flag_rows c waiting word met.0 met.1)
        (long_filled (arg_by_long c p.0) p.1 h (found_plain _ c fits) none filled)
    flag_filled waiting word None h none filled = by_short (short_of word) none
      where
        by_short : (o : Option Text) → option_map_or (λ flags. bundle_fault c again flags h) o [] ≡ []
            → AreFilled (short_or_plain c waiting word o h).0.rows
        by_short None e = rw (plain_rows c waiting word h) filled
        by_short (Some flags) e =
            let met = bundle c flags h in
            rw (after_flag_rows c waiting word met.0 met.1)
            (bundle_filled (length flags) flags h.skip plain (record h { skip = 0 }) e filled)

    to_positional_filled : (o : Option Rule) (word : Text) (w : Walk) (h : Held)
        → option_map_or (λ a. positional_fault c again a h) o [] ≡ [] → AreFilled h.rows
        → AreFilled (to_positional c o word w h).held.rows
    to_positional_filled None word w h none filled = filled
    to_positional_filled (Some a) word w h none filled = by_test (is_pending a h.pending && takes_several a) none
      where
        by_test : (b : Bool) → cond b [] (settle_fault c again h) ≡ [] → AreFilled (cond b h (settled c h)).rows
        by_test true e = filled
        by_test false e = settles h e filled

  -- ---- the walk, on a command without subcommands or with them

  module _ (s : Shape) (names : Names) (fits : ArePlainRules s.rules) where
    word_filled : (is_trailing : Bool) (waiting : Waiting) (position : ℕ) (word : Text) (h : Held)
        → word_fault s names is_trailing waiting word h ≡ []
        → AreFilled h.rows → AreFilled (word_met s.rules names is_trailing waiting position word h).0.rows
    word_filled true waiting position word h none filled = filled
    word_filled false waiting position word h none filled = by_name (subcommand_met names waiting word) none
      where
        by_dashes : (b : Bool) → cond b [] (flag_word_fault s.rules s.args_override_self (long_of word) word h) ≡ []
            → AreFilled (cond b (h, trailing position) (long_or_other s.rules waiting word (long_of word) h)).0.rows
        by_dashes true e = filled
        by_dashes false e = flag_filled s.rules s.args_override_self fits waiting word (long_of word) h e filled

        by_name : (o : Option Text) → other_fault s o word h ≡ []
            → AreFilled (subcommand_or_other s.rules o waiting position word h).0.rows
        by_name None e = by_dashes (bytes_eq word (45 ∷ 45 ∷ [])) e
        by_name (Some name) e = filled

    after_step_filled : (word : Text) (w : Walk) (h : Held) (step : Step) → step_fault s w.position h step ≡ []
        → AreFilled h.rows
        → AreFilled (after_step s.rules word w h step).held.rows
    after_step_filled word w h (next waiting) none filled = filled
    after_step_filled word w h (trailing position) none filled = filled
    after_step_filled word w h (subcommand name) none filled = filled
    after_step_filled word w h value none filled = by_index (arg_by_index s.rules w.position) none
      where
        by_index : (o : Option Rule) → option_map_or (λ a. positional_fault s.rules s.args_override_self a h) o
            (stray_fault s) ≡ []
            → AreFilled (to_positional s.rules o word w h).held.rows
        by_index None e = filled
        by_index (Some a) e = to_positional_filled s.rules s.args_override_self fits (Some a) word w h e filled

    walked_filled : (w : Walk) (word : Text) → turn_fault s names w word ≡ [] → AreFilled w.held.rows
        → AreFilled (walked s.rules names w word).held.rows
    unfolding walked
    walked_filled w word none filled = by_stop w.stopped none
      where
        met : Held × Step
        met = word_met s.rules names w.is_trailing w.waiting w.position word w.held

        by_stop : (o : Option (Text × List Text))
            → cond (is_some o) [] (or_else (word_fault s names w.is_trailing w.waiting word w.held)
            (step_fault s w.position met.0 met.1)) ≡ []
            → AreFilled (walked_from s.rules names o w word).held.rows
        by_stop (Some p) e = filled
        by_stop None e =
            after_step_filled word w met.0 met.1 (last_none _ _ e)
            (word_filled w.is_trailing w.waiting w.position word w.held (first_none _ _ e) filled)

    walk_filled : (words : List Text) (w : Walk) → walk_fault s names w words ≡ [] → AreFilled w.held.rows
        → AreFilled (fold (walked s.rules names) w words).held.rows
    unfolding walk_fault
    walk_filled [] w none filled = filled
    walk_filled (word ∷ rest) w none filled =
        walk_filled rest (walked s.rules names w word) (last_none _ _ none)
        (walked_filled w word (first_none _ _ none) filled)

  -- what is left of the faults of a level that has none
  pub record Level (s : Shape) (rows : List Row) (has_subcommand : Bool) (below : Kinds) : Type 0 where
    pub filled : AreFilled rows
    pub below_none : below ≡ []
    pub checked : check_fault s rows has_subcommand ≡ []

  pub level_of : (s : Shape) (names : Names) (words : List Text) (has_subcommand : Bool) (below : Kinds)
      → ArePlainRules s.rules
      → level_fault s names nothing_held words has_subcommand below ≡ []
      → Level s (rows_after s.rules names words) has_subcommand below
  level_of s names words has_subcommand below fits e =
      let end = (walk s.rules names nothing_held words).held in
      let after_walk = last_none (walk_fault s names (walk_from nothing_held) words) _ e in
      let after_below = last_none below _ after_walk in
      let settles_well = first_none (settle_fault s.rules s.args_override_self end) _ after_below in
      let after_settle = last_none (settle_fault s.rules s.args_override_self end) _ after_below in
      let walked_well = walk_filled s names fits words (walk_from nothing_held) (first_none _ _ e) tt in
      record {
        filled = defaults_filled s.rules (settled s.rules end).rows fits
            (settles s.rules s.args_override_self fits end settles_well walked_well);
        below_none = first_none below _ after_walk;
        checked = last_none (defaults_fault (settled s.rules end).rows s.rules) _ after_settle;
      }
