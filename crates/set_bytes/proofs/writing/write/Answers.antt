-- `set_bytes::writing::write` meets its contract: each arm has its bytes. Assumes nothing.
use mathlib.Core.Path.{sym, ap}
use Rattle.set_bytes.specs.SetBytes.{bytes_of}
use Rattle.set_bytes.proofs.writing.write.Goals as goal

pub returns-in-Unvoiced : goal.returns-in-Unvoiced
returns-in-Unvoiced c = ap bytes_of (sym c.in-Unvoiced.is)

pub returns-in-Voiced : goal.returns-in-Voiced
returns-in-Voiced c = ap bytes_of (sym c.in-Voiced.is)
