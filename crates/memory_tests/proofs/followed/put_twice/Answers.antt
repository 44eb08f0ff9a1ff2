use Rattle.memory_tests.proofs.followed.put_twice.Goals as goal

pub returns-clause-stays : goal.returns-clause-stays
returns-clause-stays g c = g.M.Memory.steady.onward _ _ _ c.write.ensures.stays c.write-2.ensures.stays
