-- the entry says what it did and more
use Rattle.std.proofs.Common.{rules, ◌≡◌, true, refl}
use Rattle.server_state.proofs.mail.Told.{more_at, said_at, some_left, some_right}
use Rattle.server_state.proofs.mail.mailbox.Mail.add_at.Goals as goal
use Rattle.server_state.proofs.mail.mailbox.Mail.add_at.Goals.{then-pending, else-pending}

pub returns-after-pending-clause-more : goal.returns-after-pending-clause-more
returns-after-pending-clause-more c =
    let p = c.in-Some.pending.now in
    let drain : p.drain ≡ true → c.if-pending.pending ≡ true = λ h. elim c.if-pending.branch [
      | then-pending w ↦ search rules
      | else-pending w ↦ search rules
    ] in
    more_at c.args.self.now c.args.index p (record { conn = p.conn; entered = c.saturating_add-pending.result; bytes = c.saturating_add-pending-in-Some.result; drain = c.if-pending.pending }) _
    (search rules) refl (some_left p.entered c.args.more.entered c.saturating_add-pending.result c.saturating_add-pending.ensures) drain refl refl refl

pub returns-after-pending-clause-said : goal.returns-after-pending-clause-said
returns-after-pending-clause-said c _ =
    let p = c.in-Some.pending.now in
    let drain : c.args.more.drain ≡ true → c.if-pending.pending ≡ true = λ h. elim c.if-pending.branch [
      | then-pending w ↦ search rules
      | else-pending w ↦ search rules
    ] in
    said_at c.args.self.now c.args.index c.args.more (record { conn = p.conn; entered = c.saturating_add-pending.result; bytes = c.saturating_add-pending-in-Some.result; drain = c.if-pending.pending }) _
    (search rules) (search rules) (some_right p.entered c.args.more.entered c.saturating_add-pending.result c.saturating_add-pending.ensures) drain refl
