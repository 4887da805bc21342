-- What contracts see of a machine.
use Rattle.std.specs.Prelude.{◌≡◌, ℕ, List, Some, IsTrue}
use Rattle.enc_ast.specs.declared.Program.{Program}
use Rattle.enc_ast.specs.Thin.{is_thin}
use Rattle.enc_model.specs.declared.config.Config.{Config}
use Rattle.enc_model.specs.Exec.{run}

-- a program, and where its run has come
pub record Machine : Type 0 where
  pub program : Program
  pub config : Config

-- Steps of these actors, in this order, lead from the start to the configuration.
pub record IsReached (program : Program) (config : Config) : Type 0 where
  pub actors : List ℕ
  pub reached : run program actors ≡ Some config

-- what every machine keeps
pub record IsValid (program : Program) (config : Config) : Type 0 where
  pub thin : IsTrue (is_thin program)
  pub reached : IsReached program config
