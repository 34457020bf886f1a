use Rattle.std.proofs.Common.{◌≡◌}
use Rattle.std.specs.VecDeque.Iter.{deque_iter_rest}
use Rattle.beeb_files.specs.Files.{bytes_of}
use Rattle.beeb_files.specs.Memory.{files_of}
use Rattle.beeb_files.proofs.mem_outlet.MemOutlet.file.Given as goal

-- the entries before this one have other names
abbrev pub invariant-loop-held : goal.invariant-loop-held
invariant-loop-held l = bytes_of l.self.files l.name ≡ bytes_of (files_of (deque_iter_rest l.held-iterator)) l.name
