-- SPDX-License-Identifier: Apache-2.0 OR MIT
use Rattle.std.proofs.Common.{◌∙◌, ◌∷◌, [], Bool, ap, map, refl}
use Rattle.cr_journal.specs.Gates.{IsKeptOrOneMore}
use Rattle.cr_journal.specs.Grammar.{payload}
use Rattle.cr_journal.specs.Keeping.{OpensTo}
use Rattle.cr_journal.specs.Standing.{doubted}
use Rattle.cr_journal.proofs.Keeping.{doubt_either, kept_more, kept_same, opens_one}
use Rattle.cr_ports.proofs.StopLaws.{weaken}
use Rattle.cr_journal.proofs.keeper.keep_ready.Goals as goal

pub append-requires-clause-stands : goal.append-requires-clause-stands
append-requires-clause-stands g c = λ told.
    let k = c.requires.keeps told in (map payload k.groups, payload c.args.doubt.now.items, k.stands)

pub append-requires-clause-block : goal.append-requires-clause-block
append-requires-clause-block g c =
    (payload c.args.prepared.copies.items, c.requires.fits.1, c.deref.ensures.value ∙ c.requires.block)

pub returns-in-Ok-clause-keeps : goal.returns-in-Ok-clause-keeps
returns-in-Ok-clause-keeps g c = λ told.
    let k = c.requires.keeps told in
    let group = c.args.prepared.copies.items in
    let doubt = c.args.doubt.now.items in
    let is = c.deref.ensures.value ∙ c.requires.block in
    rw (c.add_all.ensures.rows, c.add_all.ensures.rest)
    (kept_more g.D.Disk.seen g.D.Disk.may_leave c.args.journal.now c.append.new.self c.args.rows.now.items doubt group
    [] k
    c.in-Ok.ensures.ready c.requires.fits.0 tt
    (c.in-Ok.ensures.kept told (map payload k.groups) (payload doubt) (payload group) k.stands c.requires.fits.1 is))

pub returns-clause-keeps : goal.returns-clause-keeps
returns-clause-keeps g c = λ told.
    let k = c.requires.keeps told in
    let group = c.args.prepared.copies.items in
    let doubt = c.args.doubt.now.items in
    let is = c.deref.ensures.value ∙ c.requires.block in
    kept_same g.D.Disk.seen g.D.Disk.may_leave c.args.journal.now c.append.new.self c.args.rows.now.items doubt group k
    c.requires.fits.0
    (c.in-Err.ensures.not_kept told (map payload k.groups) (payload doubt) (payload group) k.stands c.requires.fits.1
    is)

pub returns-in-Ok-clause-doubt : goal.returns-in-Ok-clause-doubt
returns-in-Ok-clause-doubt g c = λ old. ap (λ (b : Bool). doubted b c.add_all.new.copies.items) c.in-Ok.ensures.ready

pub returns-clause-doubt : goal.returns-clause-doubt
returns-clause-doubt g c = λ old. doubt_either c.append.new.self.in_doubt c.args.prepared.copies.items old

pub returns-in-Ok-clause-any_moment : goal.returns-in-Ok-clause-any_moment
returns-in-Ok-clause-any_moment g c = λ told.
    let k = c.requires.keeps told in
    let group = c.args.prepared.copies.items in
    let rows = c.args.rows.now.items in
    let is = c.deref.ensures.value ∙ c.requires.block in
    weaken g.D.Disk.moment g.D.Disk.left_since c.args.journal.now.disk c.append.new.self.disk
    (IsKeptOrOneMore (map payload k.groups) (payload group ∷ [])) (OpensTo rows (group ∷ []))
    (λ f o. opens_one k.groups rows group f k.fit c.requires.fits.0 k.rows_are o)
    (c.append.ensures.any_moment told (map payload k.groups) (payload c.args.doubt.now.items) (payload group) k.stands
    c.requires.fits.1 is)

pub returns-clause-any_moment : goal.returns-clause-any_moment
returns-clause-any_moment g c = λ told.
    let k = c.requires.keeps told in
    let group = c.args.prepared.copies.items in
    let rows = c.args.rows.now.items in
    let is = c.deref.ensures.value ∙ c.requires.block in
    weaken g.D.Disk.moment g.D.Disk.left_since c.args.journal.now.disk c.append.new.self.disk
    (IsKeptOrOneMore (map payload k.groups) (payload group ∷ [])) (OpensTo rows (group ∷ []))
    (λ f o. opens_one k.groups rows group f k.fit c.requires.fits.0 k.rows_are o)
    (c.append.ensures.any_moment told (map payload k.groups) (payload c.args.doubt.now.items) (payload group) k.stands
    c.requires.fits.1 is)

pub returns-in-Ok-clause-cause : goal.returns-in-Ok-clause-cause
returns-in-Ok-clause-cause g c = record {
  later = c.append.ensures.cause.later;
  failed = λ e. absurd (cc e);
  steady = λ ok. c.in-Ok.ensures.cause.steady;
}

pub returns-clause-cause : goal.returns-clause-cause
returns-clause-cause g c = record {
  later = c.append.ensures.cause.later;
  failed = λ e. c.in-Err.ensures.cause.failed;
  steady = λ ne. absurd (ne refl);
}
