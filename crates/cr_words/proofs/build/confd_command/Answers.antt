-- SPDX-License-Identifier: Apache-2.0 OR MIT
use Rattle.std.proofs.Common.{◌≡◌, refl, ap, ap₂, ◌∙◌}
use Rattle.std.proofs.lemmas.Result.{IfOk-weaker}
use Rattle.clap.specs.Words.{App, app_of, with_subcommand}
use Rattle.cr_words.specs.Words.{required, confd_words}
use Rattle.cr_words.proofs.build.confd_command.Goals as goal

pub returns : goal.returns
unfolding confd_words
returns c =
    let top = λ (a : App). a.top in
    let first : app_of c.disable_help_subcommand.result ≡ required (app_of c.new.result) =
    rw (c.disable_help_subcommand.ensures, c.subcommand_required.ensures) refl in
    let program = first ∙ ap required c.new.ensures.app in
    let with_pipe = c.in_ok-subcommand.ensures.shape c.in_ok-pipe_command.ensures.local
    ∙ ap₂ with_subcommand program (ap top c.in_ok-pipe_command.ensures.shape) in
    let with_serve = c.in_ok-subcommand-2.ensures.shape c.in_ok-serve_command.ensures.local
    ∙ ap₂ with_subcommand with_pipe (ap top c.in_ok-serve_command.ensures.shape) in
    let with_view = c.in_ok-subcommand-3.ensures.shape c.in_ok-view_command.ensures.local
    ∙ ap₂ with_subcommand with_serve (ap top c.in_ok-view_command.ensures.shape) in
    IfOk-weaker c.subcommand-4.result _ _
    (λ m h. h.shape c.in_ok-drill_command.ensures.local ∙ ap₂ with_subcommand with_view
    (ap top c.in_ok-drill_command.ensures.shape)) c.subcommand-4.ensures
