-- one subcommand after the other
use Rattle.std.proofs.Common.{◌≡◌, ◌∙◌, ap, ap₂, rules}
use Rattle.std.proofs.lemmas.Result.{IfOk-weaker}
use Rattle.clap.specs.Words.{App, app_of, shape_of, with_subcommand}
use Rattle.command_line.specs.Words.{bare_app, play_app}
use Rattle.command_line.proofs.words.natsd_command.Goals as goal

pub returns : goal.returns
returns c =
    let bare : app_of c.subcommand_required.result ≡ bare_app = search rules in
    let play : shape_of c.about-2.result ≡ play_app.top = search rules in
    let check = c.in_ok-check_command.ensures in
    let explain = c.in_ok-explain_command.ensures in
    let compare = c.in_ok-compare_command.ensures in
    let serve = c.in_ok-serve_command.ensures in
    let one = c.in_ok-subcommand.ensures.shape (search rules) ∙ ap₂ with_subcommand bare play in
    let two = c.in_ok-subcommand-2.ensures.shape check.1 ∙ ap₂ with_subcommand one (ap (λ (a : App). a.top) check.0) in
    let three = c.in_ok-subcommand-3.ensures.shape explain.1 ∙ ap₂ with_subcommand two (ap (λ (a : App). a.top) explain.0) in
    let four = c.in_ok-subcommand-4.ensures.shape compare.1 ∙ ap₂ with_subcommand three (ap (λ (a : App). a.top) compare.0) in
    IfOk-weaker c.subcommand-5.result _ _ (λ command more. more.shape serve.1 ∙ ap₂ with_subcommand four (ap (λ (a : App). a.top) serve.0)) c.subcommand-5.ensures
