-- The sizes of a message's texts, out of one number.
use Rattle.std.proofs.Common.{◌≡◌, ℕ, ◌+◌, ◌-◌, ◌*◌, ◌/◌, ◌%◌, ◌<◌, ◌≤◌, List, length, drop, Option, Some, None, sym, ap, ◌∙◌, subst, arith, length-drop}
use Rattle.std.proofs.Math.Nat.{div-div-eq-div-mul}
use Rattle.std.proofs.lemmas.Nat.{div-mul-add, mod-mul-add}
use Rattle.std.proofs.lemmas.List.Sums.{prefix_len-le-length}
use Rattle.base.specs.Blanks.{is_blank, blanks_of}
use Rattle.wire_message.specs.declared.places.Span.{Span}
use Rattle.wire_message.specs.declared.places.TextsAt.{TextsAt}
use Rattle.wire_message.specs.Stored.{Stored, stored, stored_in}
use Rattle.wire_message.specs.Texts.{span_len, IsSpanOf, AreWithin}

pub all_stored : (s r f h : ℕ) → s < 8192 → r < 8192 → f < 8192 → stored_in (((h * 8192 + f) * 8192 + r) * 8192 + s) ≡ stored s r f h
all_stored s r f h few_s few_r few_f =
    let a : ℕ = h * 8192 + f in
    let b : ℕ = a * 8192 + r in
    let n : ℕ = b * 8192 + s in
    let first : n % 8192 ≡ s = mod-mul-add b 8192 s few_s in
    let rest : n / 8192 ≡ b = div-mul-add b 8192 s few_s in
    let second : n / 8192 % 8192 ≡ r = ap (λ k. k % 8192) rest ∙ mod-mul-add a 8192 r few_r in
    let last : n / 67108864 ≡ a = sym (div-div-eq-div-mul n 8192 8192) ∙ ap (λ k. k / 8192) rest ∙ div-mul-add a 8192 r few_r in
    let third : n / 67108864 % 8192 ≡ f = ap (λ k. k % 8192) last ∙ mod-mul-add h 8192 f few_f in
    let fourth : n / 549755813888 ≡ h = sym (div-div-eq-div-mul n 67108864 8192) ∙ ap (λ k. k / 8192) last ∙ div-mul-add h 8192 f few_f in
    λ i. stored (first i) (second i) (third i) (fourth i)

-- a subject to answer on is within the text, if there is one
reply_within : (text : List ℕ) (from : ℕ) (reply : Option Span) → from ≤ length text → IsSpanOf text from reply →
    from + blanks_of (drop from text) + span_len reply ≤ length text
reply_within text from None within is =
    omega (arith, prefix_len-le-length is_blank (drop from text), length-drop from text)
reply_within text from (Some span) within is = omega (arith, is)

-- the sizes of texts at their places are within the text
pub are_within : (text : List ℕ) (at : TextsAt) (s : Stored) → s ≡ stored at.subject (span_len at.reply) (length text - at.payload - at.head) at.head →
    at.subject ≤ length text → IsSpanOf text at.subject at.reply → at.head + at.payload ≤ length text → AreWithin s text
are_within text at s is within reply block =
    let Q : Stored → Type 0 = λ x. AreWithin x text in
    subst Q (sym is) (within, reply_within text at.subject at.reply within reply, omega arith)
