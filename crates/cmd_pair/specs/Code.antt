-- The program's values, as the definitions see them.

-- the view of a value that ignores its content
abbrev pub nothing : {X : Type 0} → X → Unit {0}
nothing x = tt
