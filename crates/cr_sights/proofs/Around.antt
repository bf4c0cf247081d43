-- SPDX-License-Identifier: Apache-2.0 OR MIT
-- An entry at a place of a history, with those before it and those behind it.
use Rattle.std.proofs.Common.{◌≡◌, ◌∙◌, ℕ, ◌+◌, ◌<◌, suc, [], ◌∷◌, ◌++◌, length, take, drop, get_or, sym, ap, arith}
use Rattle.std.proofs.Math.Seq.{drop-cons, take-suc}
use Rattle.std.proofs.lemmas.List.{take-append-drop}
use Rattle.cr_base.specs.declared.entry.Stamped.{Stamped}
use Rattle.cr_base.specs.History.{History}

module _ (log : History) (at : ℕ) (d : Stamped) (within : at < length log) where
  abbrev pub here : Stamped
  here = get_or log at d

  next : at + 1 ≡ suc at
  next = omega arith

  -- the entries up to this place and with it
  pub one_more : take (at + 1) log ≡ take at log ++ here ∷ []
  one_more = ap (λ (n : ℕ). take n log) next ∙ take-suc log at d within

  -- it, and those behind it
  pub and_behind : drop at log ≡ here ∷ drop (at + 1) log
  and_behind = drop-cons log at d within ∙ ap (λ (n : ℕ). here ∷ drop n log) (sym next)

  -- those before it, it, and those behind it
  pub split_here : log ≡ take at log ++ here ∷ drop (at + 1) log
  split_here = sym (take-append-drop at log) ∙ ap (λ (rest : History). take at log ++ rest) and_behind
