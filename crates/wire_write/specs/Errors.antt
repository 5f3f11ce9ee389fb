-- The texts of errors, and which of them end the connection (NATS documentation, "Client Protocol"; docs/PROTOCOL.md).
use Rattle.std.specs.Prelude.{ℕ, List, ◌++◌, Bool, true, false, codes, Option, Some, None, option_copied}
use Rattle.wire_write.specs.declared.error.ServerError.{ServerError}
use Rattle.wire_write.specs.declared.error.ServerError.TheVariants.{UnknownOperation, ParserError, ControlLine, PayloadViolation, Authorization, InvalidProtocol, ConnectionsExceeded, SlowConsumer, InvalidSubject, SubscriptionsExceeded, PublishDenied, SubscriptionDenied}

-- a publish that the user's permissions refuse, by the subject's bytes
abbrev pub publish_denied_line : List ℕ → List ℕ
publish_denied_line subject = codes "-ERR 'Permissions Violation for Publish to \"" ++ subject ++ codes "\"'\r\n"

-- a subscription that the user's permissions refuse, by the pattern's bytes and those of the queue if it names one
abbrev pub subscription_denied_line : List ℕ → Option (List ℕ) → List ℕ
subscription_denied_line subject None = codes "-ERR 'Permissions Violation for Subscription to \"" ++ subject ++ codes "\"'\r\n"
subscription_denied_line subject (Some queue) =
    codes "-ERR 'Permissions Violation for Subscription to \"" ++ subject ++ codes "\" using queue \"" ++ queue ++ codes "\"'\r\n"

-- the line of each error
abbrev pub err_line : ServerError → List ℕ
err_line UnknownOperation = codes "-ERR 'Unknown Protocol Operation'\r\n"
err_line ParserError = codes "-ERR 'Parser Error'\r\n"
err_line ControlLine = codes "-ERR 'Maximum Control Line Exceeded'\r\n"
err_line PayloadViolation = codes "-ERR 'Maximum Payload Violation'\r\n"
err_line Authorization = codes "-ERR 'Authorization Violation'\r\n"
err_line InvalidProtocol = codes "-ERR 'Invalid Client Protocol'\r\n"
err_line ConnectionsExceeded = codes "-ERR 'Maximum Connections Exceeded'\r\n"
err_line SlowConsumer = codes "-ERR 'Slow Consumer'\r\n"
err_line InvalidSubject = codes "-ERR 'Invalid Subject'\r\n"
err_line SubscriptionsExceeded = codes "-ERR 'Maximum Subscriptions Exceeded'\r\n"
err_line (PublishDenied subject) = publish_denied_line subject.now
err_line (SubscriptionDenied subject queue) = subscription_denied_line subject.now (option_copied queue)

-- after these the server closes the connection; after the rest it goes on
abbrev pub closes_after : ServerError → Bool
closes_after InvalidSubject = false
closes_after SubscriptionsExceeded = false
closes_after (PublishDenied _) = false
closes_after (SubscriptionDenied _ _) = false
closes_after _ = true
