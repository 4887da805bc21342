-- What the first bytes of a file say of its whole text.
use Rattle.std.proofs.Common.{◌≡◌, ◌≤◌, ◌<◌, ◌∙◌, ℕ, List, length, take, Option, Some, None, sym, ap, subst, arith, length-take, inl, inr}
use Rattle.std.proofs.lemmas.List.{take_all}
use Rattle.enc_ast.specs.declared.Program.{Program}
use Rattle.enc_ast.specs.declared.Rule.{Rule}
use Rattle.enc_ast.specs.declared.Reject.{Reject}
use Rattle.enc_ast.specs.declared.Span.{Span}
use Rattle.enc_io.specs.Texts.{Texts, text_of, IsReadOf}
use Rattle.enc_model.specs.declared.Pair.{Pair}
use Rattle.enc_parse.specs.Spells.{whole}
use Rattle.encore_run.specs.declared.reply.Reply.{Reply}
use Rattle.encore_run.specs.Built.{Runs, FirstFailure}
use Rattle.encore_run.specs.Answer.{IsJudgement, rejected, ran, Tells}
use Rattle.encore_run.specs.Lines.{reject_line}

le-lt : {n : ℕ} → n ≤ 1048576 → n < 1048577
le-lt h = omega arith

lt-le : {k m n : ℕ} → k < m → m ≤ n → k < n
lt-le h e = omega arith

short : (count : ℕ) (text bytes : List ℕ) → bytes ≡ take count text → length bytes < count → bytes ≡ text
short count text bytes e few = e ∙ take_all count text (omega (arith, ap length e, length-take count text))

no_longer : (count : ℕ) (text bytes : List ℕ) → bytes ≡ take count text → length bytes ≤ length text
no_longer count text bytes e = omega (arith, ap length e, length-take count text)

-- where fewer bytes came than were asked for, they are the text
read-whole : (text bytes : List ℕ) → bytes ≡ take 1048577 text → length bytes ≤ 1048576 → bytes ≡ text
read-whole text bytes e few = short 1048577 text bytes e (le-lt few)

-- a failure at the front of the text is told in the same way of all texts
same_line : (file text bytes : List ℕ) (rule : Rule) (span : Span) → span ≡ whole 0 → reject_line file bytes rule span ≡ reject_line file text rule span
same_line file text bytes rule span e =
    ap (reject_line file bytes rule) e ∙ sym (ap (reject_line file text rule) e)

-- a failure of a text that is not too long is told of the whole
tells-whole : (file text bytes line : List ℕ) (rule : Rule) (span : Span) → FirstFailure bytes rule span → line ≡ reject_line file bytes rule span → bytes ≡ take 1048577 text → length bytes ≤ 1048576 → Tells file text line
tells-whole file text bytes line rule span f says e few =
    subst (λ (x : List ℕ). Tells file x line) (read-whole text bytes e few) (record { rule = rule; span = span; fails = f; says = says })

tells-read : (file text bytes line : List ℕ) (rule : Rule) (span : Span) → FirstFailure bytes rule span → line ≡ reject_line file bytes rule span → bytes ≡ take 1048577 text → Tells file text line
tells-read file text bytes line rule span (inl (inl (inl size))) says e =
    let long : 1048576 < length text = lt-le size.long (no_longer 1048577 text bytes e) in
    record {
      rule = rule;
      span = span;
      fails = inl (inl (inl (record { long = long; is = size.is })));
      says = says ∙ same_line file text bytes rule span (ap (λ (r : Reject). r.span) size.is);
    }
tells-read file text bytes line rule span (inl (inl (inr (inl broken)))) says e = tells-whole file text bytes line rule span (inl (inl (inr (inl broken)))) says e broken.short
tells-read file text bytes line rule span (inl (inl (inr (inr stuck)))) says e = tells-whole file text bytes line rule span (inl (inl (inr (inr stuck)))) says e stuck.short
tells-read file text bytes line rule span (inl (inr unfit)) says e = tells-whole file text bytes line rule span (inl (inr unfit)) says e unfit.lexes.short
tells-read file text bytes line rule span (inr (inl ill)) says e = tells-whole file text bytes line rule span (inr (inl ill)) says e ill.spells.lexes.short
tells-read file text bytes line rule span (inr (inr unbuilt)) says e = tells-whole file text bytes line rule span (inr (inr unbuilt)) says e unbuilt.spells.lexes.short

ran-read : (file text bytes : List ℕ) (pairs : List Pair) (reply : Reply) (program : Program) → Runs bytes program → IsJudgement file bytes pairs reply → bytes ≡ take 1048577 text → IsJudgement file text pairs reply
ran-read file text bytes pairs reply program runs judgement e =
    subst (λ (x : List ℕ). IsJudgement file x pairs reply) (read-whole text bytes e runs.spells.lexes.short) judgement

-- a judgement on the first bytes is one on the whole text
pub judgement-read : (file text bytes : List ℕ) (pairs : List Pair) (reply : Reply) → IsJudgement file bytes pairs reply → bytes ≡ take 1048577 text → IsJudgement file text pairs reply
judgement-read file text bytes pairs reply (rejected status output none tells) e =
    rejected status output none (tells-read file text bytes reply.line tells.rule tells.span tells.fails tells.says e)
judgement-read file text bytes pairs reply (ran program spells only reports) e =
    ran-read file text bytes pairs reply program spells (ran program spells only reports) e

of_known : (known others : Texts) (name text read : List ℕ) → Some known ≡ Some others → text_of others name ≡ Some text → text_of known name ≡ Some read → read ≡ text
of_known known others name text read e f g =
    let same : known ≡ others = cc in
    let both : Some read ≡ Some text = sym g ∙ (ap (λ ts. text_of ts name) same ∙ f) in
    cc

-- what was read is the front of the text that is known
pub read-front : (texts : Option Texts) (name : List ℕ) (count : ℕ) (bytes : List ℕ) (known : Texts) (text : List ℕ) → IsReadOf texts name count bytes → texts ≡ Some known → text_of known name ≡ Some text → bytes ≡ take count text
read-front None name count bytes known text h e f = absurd (cc e)
read-front (Some others) name count bytes known text h e f =
    h.2 ∙ ap (take count) (of_known others known name text h.0 e f h.1)
