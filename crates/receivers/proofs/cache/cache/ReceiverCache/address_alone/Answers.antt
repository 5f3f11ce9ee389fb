-- what is cached of the message's publisher and subject is so, as all that the cache has
use Rattle.std.proofs.Common.{◌∙◌, ap, refl, inl, inr}
use Rattle.subjects.specs.Subject.{tokens_of}
use Rattle.subjects.proofs.Text.{again}
use Rattle.receivers.proofs.cache.Told.{alone_refused, alone_told}
use Rattle.receivers.proofs.cache.cache.ReceiverCache.address_alone.Goals as goal

pub returns-then-is_of-clause-tells : goal.returns-then-is_of-clause-tells
returns-then-is_of-clause-tells c =
    alone_told _ c.args.self.now c.args.self.now.last c.args.conn _ c.args.message.now c.args.word _ (inl refl) (c.is_of.ensures c.if-is_of.true)
    (ap tokens_of c.bytes-text.ensures ∙ again c.subject-subject.result c.tokens.ensures.grammar ∙ c.subject-subject.ensures) c.address_alone.ensures.tells

pub returns-then-is_of-clause-refused : goal.returns-then-is_of-clause-refused
returns-then-is_of-clause-refused c =
    alone_refused _ c.args.self.now c.args.self.now.last c.args.conn _ _ (inl refl) (c.is_of.ensures c.if-is_of.true)
    (ap tokens_of c.bytes-text.ensures ∙ again c.subject-subject.result c.tokens.ensures.grammar ∙ c.subject-subject.ensures) c.address_alone.ensures.of

pub returns-in-Some-clause-tells : goal.returns-in-Some-clause-tells
returns-in-Some-clause-tells c =
    alone_told _ c.args.self.now c.in-Some.cached.now c.args.conn _ c.args.message.now c.args.word _ (inr (c.in-Some.field-0-0, c.in-Some.ensures.0)) c.in-Some.ensures.1
    (ap tokens_of c.bytes-text.ensures ∙ again c.subject-subject.result c.tokens.ensures.grammar ∙ c.subject-subject.ensures) c.address_alone-in-Some.ensures.tells

pub returns-in-Some-clause-refused : goal.returns-in-Some-clause-refused
returns-in-Some-clause-refused c =
    alone_refused _ c.args.self.now c.in-Some.cached.now c.args.conn _ _ (inr (c.in-Some.field-0-0, c.in-Some.ensures.0)) c.in-Some.ensures.1
    (ap tokens_of c.bytes-text.ensures ∙ again c.subject-subject.result c.tokens.ensures.grammar ∙ c.subject-subject.ensures) c.address_alone-in-Some.ensures.of
