-- How long the lines are.
use Rattle.std.proofs.Common.{◌≡◌, ℕ, ◌+◌, List, length, decimal, Option, None, Some, arith, length-append}
use Rattle.wire_write.specs.Texts.{address, reply_room, msg_line}

pub address_length : (subject sid : List ℕ) (reply : Option (List ℕ)) → length (address subject sid reply) ≡ length subject + length sid + reply_room reply + 2
address_length subject sid None = simp length-append (omega arith)
address_length subject sid (Some reply) = simp length-append (omega arith)

pub msg_length : (subject sid : List ℕ) (reply : Option (List ℕ)) (payload : List ℕ) → length (msg_line subject sid reply payload) ≡ length subject + length sid + reply_room reply + length (decimal (length payload)) + length payload + 10
msg_length subject sid reply payload = simp length-append (omega (arith, address_length subject sid reply))
