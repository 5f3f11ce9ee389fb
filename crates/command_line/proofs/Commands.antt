-- A command with one option more.
use Rattle.std.proofs.Common.{◌≡◌, ◌∙◌, ◌||◌, Bool, false, ap₂, refl}
use Rattle.clap.specs.Words.{AddsArg, App, Rule, rule_of, with_rule}
use Rattle.clap.specs.declared.builder.arg.Arg.{Arg}
use Rattle.clap.specs.declared.builder.command.Command.{Command}
use Rattle.command_line.specs.Options.{IsLocalApp}

neither : (x y : Bool) → x ≡ false → y ≡ false → (x || y) ≡ false
neither x y e f = rw (e, f) refl

pub with_option : (old new : Command) (arg : Arg) (app : App) (rule : Rule) → IsLocalApp app old → AddsArg old arg new → rule_of arg ≡ rule → arg.global ≡ false →
    IsLocalApp (with_rule app rule) new
with_option old new arg app rule is more same local =
    (more.shape local ∙ ap₂ with_rule is.0 same, more.globals ∙ neither _ _ is.1 local)
