-- the one with the subject is counted on, or none has it
use Rattle.std.proofs.Common.{◌≡◌, ◌∙◌, ap, sym, refl, is_some}
use Rattle.subjects.specs.Subject.{tokens_of}
use Rattle.reply_grants.specs.Grants.{after_response}
use Rattle.reply_grants.specs.Window.{window}
use Rattle.reply_grants.proofs.Entries.{answered_first, none_from_lookup, none_dropped, none_answered}
use Rattle.reply_grants.proofs.grant_table.spend.Goals as goal

pub returns-in-Some-clause-window : goal.returns-in-Some-clause-window
returns-in-Some-clause-window c gone =
    let granted = c.in-Some.granted.now in
    let written = c.get_mut.follows.holds (record { noted = granted.noted; count = c.saturating_add-granted.result }) in
    ap (λ es. window gone es) written.0
    ∙ answered_first (tokens_of c.of.result.text.now) granted _ c.args.table.now.entries gone (sym c.in-Some.ensures.value) c.get_mut.ensures.unique
    (λ k. ap (λ n. record { subject = k; noted = granted.noted; count = n }) c.saturating_add-granted.ensures)
    ∙ ap (λ s. after_response s (window gone c.args.table.now.entries)) c.of.ensures

pub returns-in_default-clause-window : goal.returns-in_default-clause-window
returns-in_default-clause-window c gone =
    let es = c.args.table.now.entries in
    let s = tokens_of c.of.result.text.now in
    let lent : c.get_mut.follows.lender-at-none.entries ≡ es = rw c.get_mut.follows.holds-at-none refl in
    ap (λ fs. window gone fs) lent ∙ sym (none_answered s _ (none_dropped s gone es (none_from_lookup s es (ap is_some c.in_default.ensures.value))))
    ∙ ap (λ t. after_response t (window gone es)) c.of.ensures
