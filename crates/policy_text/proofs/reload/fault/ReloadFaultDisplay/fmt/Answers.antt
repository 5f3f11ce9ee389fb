-- a fault of a document prints its line where the account is text
use Rattle.std.proofs.Common.{◌≡◌, ap, sym, ◌∙◌, subst}
use Rattle.std.specs.Fmt.{WritesOnOk}
use Rattle.std.specs.Str.{IsUtf8}
use Rattle.policy_text.specs.reload.Fault.{policy_line, fault_text}
use Rattle.policy_text.proofs.reload.Texts.{told, untold}
use Rattle.policy_text.proofs.reload.fault.ReloadFaultDisplay.fmt.Goals as goal

pub returns-in-Ok-clause-writes : goal.returns-in-Ok-clause-writes
returns-in-Ok-clause-writes g c =
    let utf8 = subst IsUtf8 c.as_slice.ensures c.in-Ok.ensures.cases.1 in
    let line : policy_line c.in-Policy.fault c.in-Ok.account.now ≡ fault_text c.args.self.now =
    ap (λ name. policy_line c.in-Policy.fault name) (c.in-Ok.ensures.cases.0 ∙ c.as_slice.ensures) ∙ told c.in-Policy.fault c.in-Policy.account utf8 ∙ ap fault_text (sym c.in-Policy.is) in
    subst (λ text. WritesOnOk g.W.Write.write_str_gives c.args.f.now c.show_policy.result text c.show_policy.new.f) line c.show_policy.ensures

pub returns-in-Err-clause-writes : goal.returns-in-Err-clause-writes
returns-in-Err-clause-writes g c =
    let line = untold c.in-Policy.fault c.in-Policy.account (λ utf8. c.in-Err.ensures.cases.0 (subst IsUtf8 (sym c.as_slice.ensures) utf8)) ∙ ap fault_text (sym c.in-Policy.is) in
    subst (λ text. WritesOnOk g.W.Write.write_str_gives c.args.f.now c.fmt-in-Err.result text c.fmt-in-Err.new.f) line c.fmt-in-Err.ensures.writes
