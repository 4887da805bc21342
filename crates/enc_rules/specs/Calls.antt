-- Calls, sends and uses of functions.
use Rattle.std.specs.Prelude.{ℕ, Bool, true, false, not, ◌==◌, ◌&&◌, ◌||◌, cond, List, [], ◌∷◌, length, map, Option, Some, None, option_map, option_and_then}
use Rattle.enc_ast.specs.declared.rules.Span.{Span}
use Rattle.enc_ast.specs.declared.Expr.{Expr}
use Rattle.enc_ast.specs.declared.stmts.Receiver.{Receiver}
use Rattle.enc_ast.specs.declared.stmts.Receiver.TheVariants as r
use Rattle.enc_modes.specs.declared.ty.Ty.{Ty}
use Rattle.enc_modes.specs.Modes.{is_sendable, is_shareable}
use Rattle.enc_modes.specs.Equality.{same}
use Rattle.enc_premises.specs.Premises.{Premises, none, ◌⨾◌, if_known}
use Rattle.enc_flow.specs.Env.{Env, find, ty_of}
use Rattle.enc_types.specs.Words.{every}
use Rattle.enc_types.specs.Names.{Names}
use Rattle.enc_names.specs.declared.members.Slot.{Slot}
use Rattle.enc_names.specs.declared.members.Signature.{Signature}
use Rattle.enc_names.specs.Members.{Tables}
use Rattle.enc_names.specs.Lookups.{method_for, sent_for, signature_of}
use Rattle.enc_exprs.specs.declared.uses.Use.TheVariants.{Consumes, Looks}
use Rattle.enc_exprs.specs.Uses.{this_word, variable, lends, regains}
use Rattle.enc_exprs.specs.Exprs.{Judged, operand, consumes, judged}
use Rattle.enc_rules.specs.Parts.{is_cap, is_target, is_subordinate}

-- ---- receivers

abbrev pub is_this : Receiver → Bool
is_this (r.Name x) = false
is_this (r.This s) = true

abbrev pub receiver_word : Receiver → List ℕ
receiver_word (r.Name x) = x.word
receiver_word (r.This s) = this_word

abbrev pub receiver_span : Receiver → Span
receiver_span (r.Name x) = x.span
receiver_span (r.This s) = s

abbrev pub receiver_type : Env → Receiver → Option Ty
receiver_type env to = ty_of (find env (receiver_word to))

-- ---- arguments

abbrev pub takes : Option (List Slot) → ℕ → Bool
takes None n = false
takes (Some ps) n = length ps == n

-- the parameters, where there are as many as arguments
abbrev pub asked_of : Option (List Slot) → ℕ → List Slot
asked_of None n = []
asked_of (Some ps) n = cond (length ps == n) ps []

-- arguments one after another, each of the type of its parameter where there is one
abbrev pub arguments : Env → List Slot → List Judged → Premises
arguments env ps [] = none
arguments env [] (a ∷ as_) = operand env Consumes (λ u. true) a ⨾ arguments (consumes env a.name) [] as_
arguments env (p ∷ ps) (a ∷ as_) = operand env Consumes (same p.ty) a ⨾ arguments (consumes env a.name) ps as_

abbrev pub after_arguments : Env → List Judged → Env
after_arguments env [] = env
after_arguments env (a ∷ as_) = after_arguments (consumes env a.name) as_

abbrev args_judged : Names → List Expr → List Judged
args_judged names = map (judged names)

-- the arguments for a method or a function that takes these
abbrev pub arguments_of : Names → Env → Option (List Slot) → List Expr → Premises
arguments_of names env ps args = arguments env (asked_of ps (length args)) (args_judged names args)

abbrev pub after_args : Names → Env → List Expr → Env
after_args names env args = after_arguments env (args_judged names args)

-- A receiver of a linear type is moved before its arguments are judged, and can be used again after them.
unfoldable pub invoked : Names → Env → Receiver → Option (List Slot) → List Expr → Premises
invoked names env to ps args = variable env Looks (is_this to) (receiver_word to) (receiver_span to) ⨾ arguments_of names (lends env (receiver_word to)) ps args

unfoldable pub after_invoked : Names → Env → Receiver → List Expr → Env
after_invoked names env to args = regains (after_args names (lends env (receiver_word to)) args) (receiver_word to)

-- ---- methods

abbrev pub params_of : Option Signature → Option (List Slot)
params_of s = option_map (λ z. z.params) s

abbrev pub result_of : Option Signature → Option Ty
result_of s = option_map (λ z. z.result) s

abbrev method_on : Tables → List ℕ → Ty → Option Signature
method_on t x u = option_and_then (signature_of t) (method_for t u x)

-- the method that a call names
unfoldable pub called : Tables → Option Ty → List ℕ → Option Signature
called t u x = option_and_then (method_on t x) u

abbrev sent_to : Tables → List ℕ → Ty → Option Signature
sent_to t x u = option_and_then (signature_of t) (sent_for t u x)

-- the method that a send names
unfoldable pub sent : Tables → Option Ty → List ℕ → Option Signature
sent t u x = option_and_then (sent_to t x) u

-- a receiver of the type has exactly one method of the name that can be called, and it takes so many arguments
abbrev pub may_call : Receiver → Option Signature → ℕ → Option Ty → Bool
may_call to m n u = if_known (λ t. (is_this to || is_cap t) && takes (params_of m) n) u

abbrev inner_signature : Signature → Bool
inner_signature m = not (every (λ p. not (is_subordinate p.ty)) m.params) || is_subordinate m.result

abbrev pub is_inner : Option Signature → Bool
is_inner None = false
is_inner (Some m) = inner_signature m

abbrev reaches_inner : Receiver → Option Ty → Bool
reaches_inner to None = true
reaches_inner to (Some t) = is_this to || is_subordinate t

-- what takes or gives subordinate references is called on "this" or on a subordinate one
abbrev pub may_enter : Receiver → Option Signature → Option Ty → Bool
may_enter to m u = reaches_inner to u || not (is_inner m)

-- the receiver is one to which messages can be sent, and has the method with so many parameters
abbrev pub may_send : Option Signature → ℕ → Option Ty → Bool
may_send m n u = if_known (λ t. is_target t && takes (params_of m) n) u

abbrev sendable_signature : Signature → Bool
sendable_signature m = every (λ p. is_sendable p.ty) m.params && is_shareable m.result

-- its parameters may go to another actor, and its result may be shared
abbrev pub may_travel : Option Signature → Bool
may_travel m = if_known sendable_signature m

-- ---- functions

abbrev pub rest_of : List Slot → List Slot
rest_of [] = []
rest_of (p ∷ ps) = ps

-- the parameters of a function behind its first
abbrev pub further : Option Signature → Option (List Slot)
further f = option_map (λ z. rest_of z.params) f

abbrev pub first_is : List Slot → Option Ty → Bool
first_is [] t = false
first_is (p ∷ ps) t = if_known (same p.ty) t

abbrev first_fits : Option Signature → Option Ty → Bool
first_fits None t = false
first_fits (Some f) t = first_is f.params t

-- the function takes a value of this type, and so many further arguments
abbrev pub applies : Option Signature → ℕ → Option Ty → Bool
applies f n t = first_fits f t && takes (further f) n
