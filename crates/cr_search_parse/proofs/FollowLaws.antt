-- SPDX-License-Identifier: Apache-2.0 OR MIT
-- How the code's reader follows the states of reading.
use Rattle.std.proofs.Common.{◌≡◌, ℕ, ◌+◌, ◌-◌, ◌<◌, ◌≤◌, suc, Bool, true, false, eqb, cond, List, [], ◌∷◌, ◌++◌}
use Rattle.std.proofs.Common.{length, refl, ap, ap₂, sym, ◌∙◌, append_assoc, append-nil, length-append, replicate}
use Rattle.std.proofs.Common.{ne_eqb, arith}
use Rattle.std.proofs.lemmas.List.{length-replicate}
use Rattle.cr_base.specs.declared.search.Node.{Node}
use Rattle.cr_base.specs.declared.search.Node.TheVariants as node
use Rattle.cr_search_parse.specs.Reading.{State, Level, first, ended, wanted, no_level, levels_depth}
use Rattle.cr_search_parse.specs.Reading.{with_operand, denied, with_item, after_item, level_nodes, one_negation_more}
use Rattle.cr_search_parse.specs.Reading.{after_open, closed}
use Rattle.cr_search_parse.specs.Standing.{Stands, StandsForOne, next_told, counted, all_counted, nodes_of_levels}
use Rattle.cr_search_parse.specs.Standing.{operation_behind, count_behind, behind_item, counts_behind_item}
use Rattle.cr_search_parse.specs.declared.reader.Level.{Level as Counts}
use Rattle.cr_search_parse.specs.declared.reader.Reader.{Reader}

-- ---- operands

operand-is : (operation : ℕ → Node) (before second : List Node)
    → with_operand operation before second ≡ before
    ++ (second ++ operation_behind (length before) (operation (length second)))
operand-is operation [] second = sym (append-nil second)
operand-is operation (s ∷ before) second = rw (ne_eqb (suc (length before)) 0 (λ e. omega arith)) refl

operand-length : (operation : ℕ → Node) (before second : List Node)
    → length (with_operand operation before second) ≡ count_behind (length before) (length second)
operand-length operation [] second = refl
operand-length operation (s ∷ before) second =
    rw (ne_eqb (suc (length before)) 0 (λ e. omega arith)) (rw (length-append, length-append) (omega arith))

-- so many nodes an item has with its negations
denied-length : (n : ℕ) (item : List Node) → length (denied n item) ≡ length item + n
denied-length n item =
    length-append item (replicate n node.Not) ∙ ap (λ (k : ℕ). length item + k) (length-replicate n node.Not)

-- what is written behind an item that ends makes its level's nodes
pub item-nodes : (before item : List Node) (level : Level) →
    ((before ++ (level.alternatives ++ level.items)) ++ item)
    ++ (replicate level.negations node.Not ++ operation_behind (length level.items)
    (node.And (length item + level.negations)))
    ≡ before ++ ((with_item item level).alternatives ++ (with_item item level).items)
item-nodes before item level =
    rw (operand-is node.And level.items (denied level.negations item), denied-length level.negations item)
    (simp append_assoc)

pub item-counts : (item : List Node) (level : Level) →
    ◌≡◌ {A = Counts}
    (record {
      alternatives = length level.alternatives;
      items = count_behind (length level.items) (length item + level.negations);
      negations = 0;
    })
    (counted (with_item item level))
item-counts item level =
    rw (operand-length node.And level.items (denied level.negations item), denied-length level.negations item) refl

-- and what is written where a level ends makes those of the level
pub level-nodes : (before : List Node) (level : Level) →
    (before ++ (level.alternatives ++ level.items)) ++ operation_behind (length level.alternatives)
    (node.Or (length level.items))
    ≡ before ++ level_nodes level
level-nodes before level = rw (operand-is node.Or level.alternatives level.items) (simp append_assoc)

pub level-count : (level : Level) → count_behind (length level.alternatives) (length level.items)
    ≡ length (level_nodes level)
level-count level = sym (operand-length node.Or level.alternatives level.items)

-- ---- the levels around

last-parts : {A : Type 0} (xs ys : List A) (x y : A) → xs ++ (x ∷ []) ≡ ys ++ (y ∷ []) → (xs ≡ ys) × (x ≡ y)
last-parts [] [] x y e = (refl, cc)
last-parts [] (b ∷ []) x y e = absurd cc
last-parts [] (b ∷ (c ∷ ys)) x y e = absurd cc
last-parts (a ∷ []) [] x y e = absurd cc
last-parts (a ∷ (b ∷ xs)) [] x y e = absurd cc
last-parts (a ∷ xs) (b ∷ ys) x y e = let h = last-parts xs ys x y cc in (cc, h.1)

-- the level around the one that is read
pub record Popped (around : List Level) (left : List Counts) (last : Counts) : Type 0 where
  pub level : Level
  pub levels : List Level
  pub all : around ≡ level ∷ levels
  pub popped_level : last ≡ counted level
  pub rest : left ≡ all_counted levels

pub popped : (around : List Level) (left : List Counts) (last : Counts) → left ++ (last ∷ []) ≡ all_counted around
    → Popped around left last
popped [] [] last e = absurd cc
popped [] (l ∷ left) last e = absurd cc
popped (level ∷ levels) left last e =
    let h = last-parts left (all_counted levels) last (counted level) e in
    record { level = level; levels = levels; all = refl; popped_level = h.1; rest = h.0 }

pub no-level_left : (around : List Level) → [] ≡ all_counted around → around ≡ []
no-level_left [] e = refl
no-level_left (level ∷ levels) e = absurd (none (all_counted levels) e)
  where
    none : (left : List Counts) → [] ≡ left ++ (counted level ∷ []) → ⊥
    none [] e = cc
    none (l ∷ left) e = cc

-- ---- one symbol

-- a parenthesis opens
pub open_stands : (r q : Reader) (s : State) → Stands r s → q.nodes.items ≡ r.nodes.items
    → q.around.items ≡ r.around.items ++ (r.level ∷ [])
    → q.level ≡ counted no_level → first ≡ next_told q.next → q.outside ≡ r.outside + (r.level.negations + 1)
    → q.terms ≡ r.terms
    → r.outside + r.level.negations < 64 → Stands q (after_open s)
open_stands r q s stands nodes around level next outside terms low =
    let negations = ap (λ (l : Counts). l.negations) stands.level in
    record {
      nodes = nodes ∙ (stands.nodes ∙ sym (append-nil (nodes_of_levels (s.level ∷ s.around))));
      around = around ∙ ap₂ (λ (before : List Counts) (l : Counts). before ++ (l ∷ [])) stands.around stands.level;
      level = level;
      next = next;
      outside = omega (arith, outside, stands.outside, negations);
      terms = terms ∙ stands.terms;
      shallow = omega (arith, low, stands.outside, negations);
    }

-- an item has ended, whose nodes come last
pub item_stands : (q : Reader) (s : State) (item : List Node) (count : ℕ) (level : Counts) (nodes : List Node)
    → level ≡ counted s.level
    → count ≡ length item → nodes ≡ nodes_of_levels (s.level ∷ s.around) ++ item
    → q.nodes.items ≡ nodes ++ behind_item level count
    → q.around.items ≡ all_counted s.around
    → q.level ≡ counts_behind_item level count
    → ended ≡ next_told q.next → q.outside ≡ levels_depth s.around → q.terms ≡ s.terms → levels_depth s.around ≤ 64
    → Stands q (after_item item s)
item_stands q s item count level nodes is_level is_count is_nodes written around after next outside terms low = record {
  nodes = written ∙ rw (is_nodes, is_level, is_count) (item-nodes (nodes_of_levels s.around) item s.level);
  around = around;
  level = after ∙ rw (is_level, is_count) (item-counts item s.level);
  next = next;
  outside = outside;
  terms = terms;
  shallow = omega (arith, low);
}

-- the alternatives of a level have one more
pub or_stands : (r q : Reader) (s : State) → Stands r s
    → q.nodes.items ≡ r.nodes.items ++ operation_behind r.level.alternatives (node.Or r.level.items)
    → q.around.items ≡ r.around.items
    → q.level ≡ record { alternatives = count_behind r.level.alternatives r.level.items; items = 0; negations = 0 }
    → wanted ≡ next_told q.next → q.outside ≡ r.outside → q.terms ≡ r.terms
    → Stands q (record s {
      level = record { alternatives = level_nodes s.level; items = []; negations = 0 };
      next = wanted;
    })
or_stands r q s stands nodes around level next outside terms = record {
  nodes =
      let none_more = ap (λ (l : List Node). nodes_of_levels s.around ++ l) (sym (append-nil (level_nodes s.level))) in
      nodes ∙ (rw (stands.nodes, stands.level) (level-nodes (nodes_of_levels s.around) s.level ∙ none_more));
  around = around ∙ stands.around;
  level =
      level
      ∙ rw stands.level (ap (λ (n : ℕ). record { alternatives = n; items = 0; negations = 0 }) (level-count s.level));
  next = next;
  outside = outside ∙ stands.outside;
  terms = terms ∙ stands.terms;
  shallow = omega (arith, stands.shallow);
}

-- one negation more waits
pub negation_stands : (r q : Reader) (s : State) → Stands r s → q.nodes.items ≡ r.nodes.items
    → q.around.items ≡ r.around.items
    → q.level ≡ record r.level { negations = r.level.negations + 1 } → q.outside ≡ r.outside → q.terms ≡ r.terms
    → r.outside + r.level.negations < 64 → Stands q (one_negation_more (next_told q.next) s)
negation_stands r q s stands nodes around level outside terms low =
    let negations = ap (λ (l : Counts). l.negations) stands.level in
    record {
      nodes = nodes ∙ stands.nodes;
      around = around ∙ stands.around;
      level = level ∙ ap (λ (l : Counts). record l { negations = l.negations + 1 }) stands.level;
      next = refl;
      outside = outside ∙ stands.outside;
      terms = terms ∙ stands.terms;
      shallow = omega (arith, low, stands.outside, negations);
    }

-- the nodes that end the text
pub end_nodes : (r : Reader) (s : State) (nodes : List Node) → Stands r s → r.around.items ≡ []
    → nodes ≡ r.nodes.items ++ operation_behind r.level.alternatives (node.Or r.level.items)
    → nodes ≡ level_nodes s.level
end_nodes r s nodes stands none written =
    let no_more = no-level_left s.around (sym none ∙ stands.around) in
    written ∙ rw (stands.nodes, stands.level, no_more) (level-nodes [] s.level)

-- ---- a parenthesis closes

behind-most : (count : ℕ) (operation : Node) → length (operation_behind count operation) ≤ 1
behind-most count operation = most (eqb count 0)
  where
    most : (b : Bool) → length (cond b [] (operation ∷ [])) ≤ 1
    most true = omega arith
    most false = omega arith

count-most : (count second : ℕ) → count_behind count second ≤ count + second + 1
count-most count second = most (eqb count 0)
  where
    most : (b : Bool) → cond b second (count + second + 1) ≤ count + second + 1
    most true = omega arith
    most false = omega arith

level-length : (before : List Node) (level : Level) →
    length (before ++ (level.alternatives ++ level.items)) ≡ length before
    + (length level.alternatives + length level.items)
level-length before level =
    omega (
      arith,
      length-append before (level.alternatives ++ level.items),
      length-append level.alternatives level.items,
    )

-- what the level around has room for
pub record Around (r : Reader) (last : Counts) : Type 0 where
  pub inside : last.negations + 1 ≤ r.outside
  pub low : r.outside ≤ 64
  pub few : last.items + (r.level.alternatives + r.level.items) ≤ length r.nodes.items

pub around_code : (r : Reader) (left : List Counts) (last : Counts) → StandsForOne r
    → r.around.items ≡ left ++ (last ∷ [])
    → Around r last
around_code r left last stood is =
    let s = stood.0 in
    let stands = stood.1 in
    let p = popped s.around left last (sym is ∙ stands.around) in
    let negations = ap (λ (l : Counts). l.negations) p.popped_level in
    let items = ap (λ (l : Counts). l.items) p.popped_level in
    let deep = ap levels_depth p.all in
    let a = ap (λ (l : Counts). l.alternatives) stands.level in
    let i = ap (λ (l : Counts). l.items) stands.level in
    let n = ap length stands.nodes in
    let more = ap (λ (levels : List Level). length (nodes_of_levels levels)) p.all in
    record {
      inside = omega (arith, stands.outside, deep, negations);
      low = omega (arith, stands.outside, stands.shallow);
      few =
          let all = level-length (nodes_of_levels s.around) s.level in
          let inner = level-length (nodes_of_levels p.levels) p.level in
          omega (arith, a, i, n, more, items, all, inner);
    }

pub close_fits : (r : Reader) (last : Counts) (count : ℕ) → Around r last → length r.nodes.items < 60000
    → count ≡ count_behind r.level.alternatives r.level.items → last.items + (count + last.negations) < 65535
close_fits r last count so light is =
    omega (arith, so.inside, so.low, so.few, is, count-most r.level.alternatives r.level.items)

pub close_grows : (old written after : List Node) (last : Counts) (count : ℕ) (o p : Node) (i j outside : ℕ)
    → last.negations + 1 ≤ outside
    → written ≡ old ++ operation_behind i o → after ≡ written
    ++ (replicate last.negations node.Not ++ operation_behind j p)
    → length after + (outside - (last.negations + 1) + 0) ≤ length old + (outside + count) + 2
close_grows old written after last count o p i j outside inside e f =
    let first_more = length-append old (operation_behind i o) in
    let nots = replicate last.negations node.Not in
    let second_more = length-append written (nots ++ operation_behind j p) in
    let item_more = length-append nots (operation_behind j p) in
    let most = behind-most i o in
    let most_more = behind-most j p in
    omega (
      arith,
      ap length e,
      ap length f,
      first_more,
      second_more,
      item_more,
      length-replicate last.negations node.Not,
      most,
      most_more,
    )

pub close_stands : (r q : Reader) (s : State) (last : Counts) (count : ℕ) (nodes : List Node) → Stands r s
    → (p : Popped s.around q.around.items last)
    → nodes ≡ r.nodes.items ++ operation_behind r.level.alternatives (node.Or r.level.items)
    → count ≡ count_behind r.level.alternatives r.level.items
    → q.nodes.items ≡ nodes ++ behind_item last count
    → q.level ≡ counts_behind_item last count
    → ended ≡ next_told q.next → q.outside ≡ r.outside - (last.negations + 1) → q.terms ≡ r.terms
    → Stands q (closed (level_nodes s.level) p.level p.levels s)
close_stands r q s last count nodes stands p ended_level is_count written after next outside terms =
    let negations = ap (λ (l : Counts). l.negations) p.popped_level in
    let deep = ap levels_depth p.all in
    let so : State = record s { around = p.levels; level = p.level } in
    let level_written : nodes ≡ nodes_of_levels s.around ++ level_nodes s.level =
    ended_level ∙ rw (stands.nodes, stands.level) (level-nodes (nodes_of_levels s.around) s.level) in
    item_stands q so (level_nodes s.level) count last nodes p.popped_level
    (is_count ∙ rw stands.level (level-count s.level))
    (level_written ∙ ap (λ (levels : List Level). nodes_of_levels levels ++ level_nodes s.level) p.all)
    written p.rest after next (omega (arith, outside, stands.outside, deep, negations)) (terms ∙ stands.terms)
    (omega (arith, stands.shallow, deep))
