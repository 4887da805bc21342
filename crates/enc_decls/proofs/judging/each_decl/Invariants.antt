use Rattle.enc_types.specs.Names.{word_of}
use Rattle.enc_decls.specs.Found.{Right}
use Rattle.enc_decls.specs.Rules.{decl_premises}
use Rattle.enc_decls.proofs.Loops.{After}
use Rattle.enc_decls.proofs.judging.each_decl.Given as goal

abbrev pub invariant-loop-decl : goal.invariant-loop-decl
invariant-loop-decl l = After word_of (decl_premises l.decls l.names) l.decls l.decl-index l.seen × Right l.decls l.names l.traits
