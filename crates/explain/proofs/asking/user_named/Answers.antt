-- the account at hand has the user, or those behind it have
use Rattle.std.proofs.Common.{◌∙◌, ap, sym}
use Rattle.std.specs.List.{find}
use Rattle.std.specs.Option.{option_copied}
use Rattle.explain.specs.Reason.{has_user_name}
use Rattle.explain.proofs.Users.{found, missed}
use Rattle.explain.proofs.asking.user_named.Goals as goal

pub returns-in-Some : goal.returns-in-Some
returns-in-Some c =
    found c.args.name.now c.as_slice-named-items.result.now c.loop-named.named-index c.named-item.result _ _ c.loop-named-test.true (sym c.named-item.is)
    (ap option_copied (sym c.in-Some.is) ∙ c.user_in.ensures ∙ ap (find (has_user_name c.args.name.now)) c.as_slice.ensures) c.loop-named.invariant

pub loop-named-preserved : goal.loop-named-preserved
loop-named-preserved c =
    missed c.args.name.now c.as_slice-named-items.result.now c.loop-named.named-index c.named-item.result _ c.loop-named-test.true (sym c.named-item.is)
    (ap option_copied (sym c.in_default.is) ∙ c.user_in.ensures ∙ ap (find (has_user_name c.args.name.now)) c.as_slice.ensures) c.loop-named.invariant
