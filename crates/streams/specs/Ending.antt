-- How a program ends by what became of its writing.
use Rattle.std.specs.Prelude.{ℕ, if◌then◌else◌, Bool, true, false, Result, Ok, Err}
use Rattle.std.specs.IoError.{error_kind}
use Rattle.std.specs.Process.{exit_status}
use Rattle.std.specs.declared.io.Error.{Error}
use Rattle.std.specs.declared.io.ErrorKind.{ErrorKind}
use Rattle.std.specs.declared.io.ErrorKind.TheVariants.{BrokenPipe}
use Rattle.std.specs.declared.process.ExitCode.{ExitCode}

-- nobody reads on
abbrev pub broken_pipe : ErrorKind → Bool
broken_pipe BrokenPipe = true
broken_pipe _ = false

-- the status that the program ends with, or the error: that nobody reads on is told by the status alone, 128 + SIGPIPE
abbrev pub ended : Result Unit Error → Result ℕ Error
ended (Ok done) = Ok 0
ended (Err e) = if broken_pipe (error_kind e) then Ok 141 else Err e

-- a program's status by its number
abbrev pub status_told : Result ExitCode Error → Result ℕ Error
status_told (Ok code) = Ok (exit_status code)
status_told (Err e) = Err e
