-- SPDX-License-Identifier: Apache-2.0 OR MIT
use Rattle.cr_routes.proofs.Resources.{found_is, none_is, texts_are}
use Rattle.cr_routes.proofs.routes.Routes.find.Goals as goal

pub returns-in_default : goal.returns-in_default
returns-in_default c = none_is c.args.self.now.router c.args.path.now c.args.self.now.whole c.in_default.ensures.missing

pub taken-requires : goal.taken-requires
taken-requires c = texts_are c.args.self.now.router c.args.path.now _ _ c.args.self.now.whole c.utf8.path
    c.in-Ok.ensures.found c.in-Ok.ensures.path

pub returns : goal.returns
returns c = found_is c.args.self.now.router c.args.path.now _ _ _ _ c.args.self.now.whole c.in-Ok.ensures.found
    c.in-Ok.ensures.path c.taken.ensures.first c.taken.ensures.second
