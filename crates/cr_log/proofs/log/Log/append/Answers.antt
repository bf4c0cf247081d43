-- SPDX-License-Identifier: Apache-2.0 OR MIT
use Rattle.std.proofs.Common.{◌++◌, ◌∙◌, sym, ap, subst}
use Rattle.indexmap.specs.IndexMap.{get}
use Rattle.cr_base.specs.History.{History}
use Rattle.cr_log.specs.declared.given.GivenNumber.{GivenNumber}
use Rattle.cr_log.specs.declared.log.Log.TheInside.{Inside}
use Rattle.cr_log.specs.Given.{is_same, number_given, MayFollow}
use Rattle.cr_log.specs.Seen.{SeenLog}
use Rattle.cr_log.proofs.IndexLaws.{placed, indexed-more, indexed-same}
use Rattle.cr_log.proofs.log.Log.append.Goals as goal
use Rattle.cr_log.proofs.log.Log.append.Goals.{in-Some+in-Ok, in_default}

-- the group follows the entries
follows : (c : goal.After-drop-group) → MayFollow c.self.inside.entries.items c.args.group.items
follows c = subst (λ (h : History). MayFollow h c.args.group.items)
    (sym (ap (λ (l : SeenLog). l.entries) c.self.view_is)) c.requires.follows

pub invariant_of-self : goal.invariant_of-self
invariant_of-self c = elim c.match-number_given.branch [
  | in-Some+in-Ok w ↦ λ (n : GivenNumber).
      ap (λ (inside : Inside). get is_same inside.index n) w.self-inside-is
      ∙ indexed-more c.self.inside.entries.items c.append.new.self.items c.args.group.items c.self.inside.index
      w.insert.new.self w.in-Some.number
      (record { first = w.len.result; count = w.len-in-Some.result }) c.self.invariant (follows c)
      (ap number_given (sym c.deref.ensures.value) ∙ sym c.number_given.ensures ∙ w.in-Some.is)
      (c.in-Ok-append.ensures.items ∙ ap (λ (inside : Inside). inside.entries.items ++ c.args.group.items)
      w.self-inside-is)
      (λ i. placed ((w.len-in-Some.ensures ∙ c.args.group.ok.0) i) ((w.len.ensures ∙ c.self.inside.entries.ok.0) i))
      w.in-Ok.ensures.updates.0 n
  | in_default w ↦ λ (n : GivenNumber).
      ap (λ (inside : Inside). get is_same inside.index n) w.self-inside-is
      ∙ indexed-same c.self.inside.entries.items c.append.new.self.items c.args.group.items c.self.inside.index
      c.self.invariant (follows c)
      (ap number_given (sym c.deref.ensures.value) ∙ sym c.number_given.ensures ∙ w.in_default.is)
      (c.in-Ok-append.ensures.items ∙ ap (λ (inside : Inside). inside.entries.items ++ c.args.group.items)
      w.self-inside-is) n
]
