-- what is at hand is so of the message, if it is of its publisher and subject
use Rattle.std.proofs.Common.{◌∙◌, ap, refl, inl}
use Rattle.subjects.specs.Subject.{tokens_of}
use Rattle.subjects.proofs.Text.{again}
use Rattle.receivers.specs.cache.Cached.{cached_others}
use Rattle.receivers.proofs.cache.Told.{if_last_cached, others_are, told_are}
use Rattle.receivers.proofs.cache.cache.ReceiverCache.address.Goals as goal

pub returns-clause-tells : goal.returns-clause-tells
returns-clause-tells c = λ done rows zs subs z current there.
    let last = c.select.new.self.last in
    told_are last c.args.conn _ c.args.message.now c.args.word _ rows zs subs z (c.in_ok-done.ensures done) ((c.select.ensures.cached rows zs subs current).each last (inl refl))
    (c.select.ensures.of c.if-not-self.false) there (ap tokens_of c.bytes.ensures ∙ again c.subject-subject.result c.tokens.ensures.grammar ∙ c.subject-subject.ensures)

pub returns-clause-others : goal.returns-clause-others
unfolding cached_others
returns-clause-others c = λ rows zs subs z current there.
    let last = c.select.new.self.last in
    if_last_cached c.select.new.self.is_last last.others rows zs subs z c.args.message.now.subject (λ is.
    others_are last rows zs subs z c.args.conn _ c.args.message.now.subject ((c.select.ensures.cached rows zs subs current).each last (inl refl)) (c.select.ensures.of is) there
    (ap tokens_of c.bytes.ensures ∙ again c.subject-subject.result c.tokens.ensures.grammar ∙ c.subject-subject.ensures))

pub returns-in_err-done-clause-others : goal.returns-in_err-done-clause-others
unfolding cached_others
returns-in_err-done-clause-others c = λ rows zs subs z current there.
    let last = c.select.new.self.last in
    if_last_cached c.select.new.self.is_last last.others rows zs subs z c.args.message.now.subject (λ is.
    others_are last rows zs subs z c.args.conn _ c.args.message.now.subject ((c.select.ensures.cached rows zs subs current).each last (inl refl)) (c.select.ensures.of is) there
    (ap tokens_of c.bytes.ensures ∙ again c.subject-subject.result c.tokens.ensures.grammar ∙ c.subject-subject.ensures))
