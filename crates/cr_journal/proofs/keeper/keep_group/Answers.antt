-- SPDX-License-Identifier: Apache-2.0 OR MIT
use Rattle.std.proofs.Common.{◌∙◌, ◌∷◌, [], inr, Bool, ap, map, sym}
use Rattle.cr_journal.specs.Gates.{IsKeptOrOneMore}
use Rattle.cr_journal.specs.Grammar.{payload}
use Rattle.cr_journal.specs.Keeping.{OpensTo}
use Rattle.cr_journal.specs.Standing.{doubted}
use Rattle.cr_journal.proofs.Keeping.{among_first, kept_still, opens_doubted, opens_wider}
use Rattle.cr_ports.proofs.StopLaws.{and_then, weaken}
use Rattle.cr_journal.proofs.keeper.keep_group.Goals as goal

pub make_ready-requires : goal.make_ready-requires
make_ready-requires g c = λ told.
    let k = c.requires.keeps told in (map payload k.groups, payload c.args.doubt.now.items, k.stands)

pub keep_ready-requires-clause-keeps : goal.keep_ready-requires-clause-keeps
keep_ready-requires-clause-keeps g c = λ told.
    let k = c.requires.keeps told in
    let doubt = c.args.doubt.now.items in
    kept_still g.D.Disk.seen g.D.Disk.may_leave c.args.journal.now c.make_ready.new.self c.args.rows.now.items doubt k
    (c.make_ready.ensures.stands told (map payload k.groups) (payload doubt) k.stands)

pub returns-in-Err-clause-keeps : goal.returns-in-Err-clause-keeps
returns-in-Err-clause-keeps g c = λ told.
    let k = c.requires.keeps told in
    let doubt = c.args.doubt.now.items in
    kept_still g.D.Disk.seen g.D.Disk.may_leave c.args.journal.now c.make_ready.new.self c.args.rows.now.items doubt k
    (c.make_ready.ensures.stands told (map payload k.groups) (payload doubt) k.stands)

pub returns-in-Err-clause-doubt : goal.returns-in-Err-clause-doubt
returns-in-Err-clause-doubt g c =
    let (was, is) = c.in-Err.ensures.doubt in
    inr (inr (ap (λ (b : Bool). doubted b c.args.doubt.now.items) (is ∙ sym was)))

pub returns-in-Err-clause-any_moment : goal.returns-in-Err-clause-any_moment
returns-in-Err-clause-any_moment g c = λ told.
    let k = c.requires.keeps told in
    let group = c.args.prepared.copies.items in
    let rows = c.args.rows.now.items in
    let doubt = c.args.doubt.now.items in
    let b = c.args.journal.now.in_doubt in
    weaken g.D.Disk.moment g.D.Disk.left_since c.args.journal.now.disk c.make_ready.new.self.disk
    (IsKeptOrOneMore (map payload k.groups) (doubted b (payload doubt))) (OpensTo rows (group ∷ doubted b doubt))
    (λ f o. opens_doubted k.groups rows doubt group b f k.fit k.doubt_fits k.rows_are o)
    (c.make_ready.ensures.any_moment told (map payload k.groups) (payload doubt) k.stands)

pub returns-in-Ok-clause-any_moment : goal.returns-in-Ok-clause-any_moment
returns-in-Ok-clause-any_moment g c = λ told.
    let k = c.requires.keeps told in
    let group = c.args.prepared.copies.items in
    let rows = c.args.rows.now.items in
    let doubt = c.args.doubt.now.items in
    let b = c.args.journal.now.in_doubt in
    let first = weaken g.D.Disk.moment g.D.Disk.left_since c.args.journal.now.disk c.make_ready.new.self.disk
    (IsKeptOrOneMore (map payload k.groups) (doubted b (payload doubt))) (OpensTo rows (group ∷ doubted b doubt))
    (λ f o. opens_doubted k.groups rows doubt group b f k.fit k.doubt_fits k.rows_are o)
    (c.make_ready.ensures.any_moment told (map payload k.groups) (payload doubt) k.stands) in
    let second = weaken g.D.Disk.moment g.D.Disk.left_since c.make_ready.new.self.disk c.keep_ready.new.journal.disk
    (OpensTo rows (group ∷ [])) (OpensTo rows (group ∷ doubted b doubt))
    (λ f o. opens_wider rows (group ∷ []) (group ∷ doubted b doubt) f (among_first group (doubted b doubt)) o)
    (c.keep_ready.ensures.any_moment told) in
    and_then g.D.Disk.moment g.D.Disk.left_since c.args.journal.now.disk c.make_ready.new.self.disk
    c.keep_ready.new.journal.disk
    (OpensTo rows (group ∷ doubted b doubt)) first second
