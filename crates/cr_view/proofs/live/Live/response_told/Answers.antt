-- SPDX-License-Identifier: Apache-2.0 OR MIT
use Rattle.std.proofs.Common.{◌∙◌, ap}
use Rattle.std.specs.Option.{option_copied}
use Rattle.cr_view.proofs.FieldLaws.{some-copied}
use Rattle.cr_view.proofs.ResponseLaws.{response-lent, response-refused, response-there}
use Rattle.cr_view.proofs.live.Live.response_told.Goals as goal

pub returns-in-Err-clause-rule : goal.returns-in-Err-clause-rule
returns-in-Err-clause-rule c =
    response-refused c.args.self.now.tables c.args.user.now c.args.paper.now c.standing-by.result
    c.has_paper-there.result c.is_some.result
    (option_copied c.response_of-response.result) c.standing-by.ensures c.has_paper-there.ensures
    (c.is_some.ensures ∙ some-copied c.response_of-response.result) c.response_of-response.ensures c.in-Err.rule
    c.in-Err.ensures

pub returns-in-Ok-clause-response : goal.returns-in-Ok-clause-response
returns-in-Ok-clause-response c =
    response-lent c.args.self.now.tables c.args.user.now c.args.paper.now c.standing-by.result c.has_paper-there.result
    c.is_some.result
    (option_copied c.response_of-response.result) c.standing-by.ensures c.has_paper-there.ensures
    (c.is_some.ensures ∙ some-copied c.response_of-response.result) c.response_of-response.ensures c.in-Ok.ensures
    c.unwrap.result.now (ap option_copied c.unwrap.ensures)

pub unwrap-requires : goal.unwrap-requires
unwrap-requires c =
    some-copied c.response_of-response.result
    ∙ response-there c.args.self.now.tables c.args.user.now c.args.paper.now c.standing-by.result
    c.has_paper-there.result c.is_some.result
    (option_copied c.response_of-response.result) c.standing-by.ensures c.has_paper-there.ensures
    (c.is_some.ensures ∙ some-copied c.response_of-response.result) c.response_of-response.ensures c.in-Ok.ensures
