-- SPDX-License-Identifier: Apache-2.0 OR MIT
use Rattle.std.proofs.Common.{ℕ, ◌∙◌, Option, ap, sym}
use Rattle.cr_beginnings.specs.Beginnings.{is_known, may_have_key}
use Rattle.cr_book.proofs.DueLaws.{may-not}
use Rattle.cr_book.proofs.beginnings.may_begin.Goals as goal

pub returns-then-not-is_known : goal.returns-then-not-is_known
returns-then-not-is_known c =
    may-not c.args.live.now.tables c.args.log.now.entries c.args.next.now c.is_known.result
    (λ m. c.is_known.ensures ∙ ap (is_known c.args.live.now.tables) c.giver_of-giver.ensures ∙ m.giver)
    c.if-not-is_known.true

pub returns-then-not-may_have_key : goal.returns-then-not-may_have_key
returns-then-not-may_have_key c =
    may-not c.args.live.now.tables c.args.log.now.entries c.args.next.now c.may_have_key.result
    (λ m. c.may_have_key.ensures
    ∙ ap (λ (giver : Option ℕ). may_have_key giver c.args.next.now.stamp.key) c.giver_of-giver.ensures ∙ m.key)
    c.if-not-may_have_key.true

pub returns-then-not-may_count : goal.returns-then-not-may_count
returns-then-not-may_count c =
    may-not c.args.live.now.tables c.args.log.now.entries c.args.next.now c.may_count.result
    (λ m. c.may_count.ensures ∙ m.count) c.if-not-may_count.true

pub returns : goal.returns
returns c = (
  λ new. record {
    giver = sym (c.is_known.ensures ∙ ap (is_known c.args.live.now.tables) c.giver_of-giver.ensures)
        ∙ c.if-not-is_known.false;
    key = sym (c.may_have_key.ensures
        ∙ ap (λ (giver : Option ℕ). may_have_key giver c.args.next.now.stamp.key) c.giver_of-giver.ensures)
        ∙ c.if-not-may_have_key.false;
    new = c.is_new.ensures.0 new;
    count = sym c.may_count.ensures ∙ c.if-not-may_count.false;
  },
  λ m. c.is_new.ensures.1 m.new,
)
